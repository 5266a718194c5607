-- A part of a list that a caller lends: which of its bytes they are, and where in the caller's memory. Show and the labels hand back such parts.
-- docs/RULES.md, 3.
use Rattle.std.specs.Prelude.{ℕ, ◌+◌, ◌-◌, ◌≤◌, List, [], ◌∷◌, ◌≡◌, length, take, drop}
use Rattle.parts.specs.declared.Part.{Part}

-- so many bytes from an offset on; none
abbrev pub part_from : ℕ → ℕ → Part
part_from offset size = record { 0 = offset; 1 = offset + size }

abbrev pub no_part : Part
no_part = record { 0 = 0; 1 = 0 }

-- it lies in the list
pub record Inside (p : Part) (l : List ℕ) : Type 0 where
  pub begins : p.0 ≤ p.1
  pub ends : p.1 ≤ length l

-- its bytes
abbrev pub bytes_in : Part → List ℕ → List ℕ
bytes_in p l = take (p.1 - p.0) (drop p.0 l)

-- what is handed back as a part of list l: these bytes, by this pointer into the caller's own memory, in which the list stands at `list`
-- (a pointer is a block and a byte in it)
pub record Handed (p : Part) (l : List ℕ) (list pointer : ℕ × ℕ) (bytes : List ℕ) : Type 0 where
  pub the_bytes : bytes ≡ bytes_in p l
  pub the_pointer : pointer ≡ (list.0, p.0 + list.1)

-- the numbers of a part: where it begins, and its length
abbrev pub numbers : Part → List ℕ
numbers p = p.0 ∷ (p.1 - p.0) ∷ []
