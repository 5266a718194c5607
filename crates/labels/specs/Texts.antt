-- What is handed back as a label: all bytes of a text, or none; and whose memory they are.
use Rattle.std.specs.Prelude.{ℕ, List}
use Rattle.parts.specs.Lent.{Lent}
use Rattle.labels.specs.Label.{text_size}

-- ---- what is handed back: the lists s and f stand at a and b in the caller's memory

-- a part of one of the two lists, and of no other memory: in the list's block, 0 or 15 bytes, all inside the list
pub data FromEither (s f : List ℕ) (a b pointer : ℕ × ℕ) (bytes : List ℕ) : Type 0 where
  lent_by_site : (offset : ℕ) → Lent s a pointer offset text_size bytes → FromEither s f a b pointer bytes
  lent_by_factory : (offset : ℕ) → Lent f b pointer offset text_size bytes → FromEither s f a b pointer bytes
