-- Check 7: record i is used, and some earlier record has its variable, its low and its high.
-- docs/RULES.md, 2.2.
use Rattle.std.specs.Prelude.{ℕ, Bool, ◌&&◌, List, ◌≡◌, eqb}
use Rattle.lists.specs.First.{any}
use Rattle.lists.specs.Says.{Says, Some, says}
use Rattle.diagrams.specs.Layout.{variable_at, low_at, high_at, is_used}
use Rattle.diagrams.specs.Decode.{Used}

unfoldable pub same_record : List ℕ → ℕ → ℕ → Bool
same_record t i j = eqb (variable_at t j) (variable_at t i) && eqb (low_at t j) (low_at t i) && eqb (high_at t j) (high_at t i)

unfoldable pub repeats : List ℕ → ℕ → Bool
repeats t i = is_used t i && any (same_record t i) i

-- ---- what it says

abbrev pub Same : List ℕ → ℕ → ℕ → Type 0
Same t i j = ((variable_at t j ≡ variable_at t i) × (low_at t j ≡ low_at t i)) × (high_at t j ≡ high_at t i)

pub same_says : (t : List ℕ) (i j : ℕ) → Says (same_record t i j) (Same t i j)
unfolding same_record
same_says t i j = search says

pub repeats_says : (t : List ℕ) (i : ℕ) → Says (repeats t i) (Used t i × Some (Same t i) i)
unfolding repeats same_record
repeats_says t i = search says
