-- A used record whose class came before it: the first such record is the first that repeats.
use Rattle.std.specs.Prelude.{ℕ, ◌+◌, ◌*◌, ◌<◌, Bool, ◌&&◌, List, ◌≡◌, get_or}
use Rattle.std.proofs.Math.Path.{ap}
use Rattle.std.proofs.Common.{◌∙◌, arith}
use Rattle.std.proofs.Math.Dec.{eqb, ltb}
use Rattle.lists.specs.First.{first_agrees}
use Rattle.lists.specs.Found.{found, found_agrees}
use Rattle.lists.specs.Says.{agree, says_eqb}
use Rattle.diagrams.specs.Layout.{record_size, variable_at, low_at, high_at, is_used}
use Rattle.diagrams.specs.Bytes.{Bytes, pair_small}
use Rattle.classes.specs.Classes.{Classes, class_of}
use Rattle.classes.specs.Keys.{key_at}
use Rattle.check_repeats.specs.Repeats.{Same, same_record, same_says, repeats}

unfoldable pub late : List ℕ → List ℕ → ℕ → Bool
late t class i = is_used t i && ltb (get_or class i 0) i

module _ (t : List ℕ) (b : Bytes t) where
  -- one key, one record
  same_key : (i j : ℕ) → key_at t j ≡ key_at t i → Same t i j
  same_key i j e = let p = small i in let q = small j in ((omega arith, omega arith), omega arith)
    where
      small : (k : ℕ) → ((variable_at t k < 256) × (low_at t k < 65536)) × (high_at t k < 65536)
      small k = (((b (record_size * k)).fits, pair_small t (record_size * k + 2) b), pair_small t (record_size * k + 4) b)

  key_agrees : (i j : ℕ) → eqb (key_at t j) (key_at t i) ≡ same_record t i j
  key_agrees i j = agree (says_eqb (key_at t j) (key_at t i)) (same_says t i j) (same_key i j) (λ s. omega (arith, s.0.0, s.0.1, s.1))

  pub late_repeats : (n : ℕ) {class : List ℕ} → Classes (key_at t) n class → found (late t class) n ≡ found (repeats t) n
  unfolding late repeats class_of
  late_repeats n {class} c =
      found_agrees (late t class) (repeats t) n
      (λ i l. ap (λ k. is_used t i && ltb k i) (c.each i l ∙ first_agrees (λ j. eqb (key_at t j) (key_at t i)) (same_record t i) i (λ j h. key_agrees i j)))
