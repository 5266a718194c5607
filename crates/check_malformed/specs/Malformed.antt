-- Check 4: record i is malformed. A byte that every record has zero is not zero; or it is free and has a reference that is not zero;
-- or it is used and has a variable that is none of the n, or a reference past the table or to a free record.
-- docs/RULES.md, 2.2.
use Rattle.std.specs.Prelude.{ℕ, ◌≤◌, Bool, not, ◌&&◌, ◌||◌, List, ◌⊎◌, ◌≡◌, eqb, leb}
use Rattle.lists.specs.Says.{Says, says}
use Rattle.diagrams.specs.Layout.{variable_at, low_at, high_at, zero_bytes, is_free, is_used}
use Rattle.diagrams.specs.Decode.{Used, Zeros, Empty}
use Rattle.diagrams.specs.References.{dead, Dead, dead_says}

unfoldable pub malformed : List ℕ → ℕ → ℕ → Bool
malformed t n i =
    not (zero_bytes t i)
    || (is_free t i && not (eqb (low_at t i) 0 && eqb (high_at t i) 0))
    || (is_used t i && (leb n (variable_at t i) || dead t (low_at t i) || dead t (high_at t i)))

-- ---- what it says

abbrev pub Malformed : List ℕ → ℕ → ℕ → Type 0
Malformed t n i =
    ((Zeros t i → ⊥) ⊎ ((variable_at t i ≡ 255) × (Empty t i → ⊥)))
    ⊎ (Used t i × (((n ≤ variable_at t i) ⊎ Dead t (low_at t i)) ⊎ Dead t (high_at t i)))

pub zeros_says : (t : List ℕ) (i : ℕ) → Says (zero_bytes t i) (Zeros t i)
zeros_says t i = search says

pub empty_says : (t : List ℕ) (i : ℕ) → Says (eqb (low_at t i) 0 && eqb (high_at t i) 0) (Empty t i)
empty_says t i = search says

pub malformed_says : (t : List ℕ) (n i : ℕ) → Says (malformed t n i) (Malformed t n i)
unfolding malformed
malformed_says t n i = search (says, dead_says) depth 12
