-- Check 5: record i is used, and a record that it names is not strictly below it in the order. `level` is the level of each variable.
-- docs/RULES.md, 2.2.
use Rattle.std.specs.Prelude.{ℕ, ◌-◌, ◌≤◌, ◌<◌, Bool, ◌&&◌, ◌||◌, List, ◌⊎◌, leb}
use Rattle.lists.specs.Says.{Says, says}
use Rattle.diagrams.specs.Layout.{records, variable_at, low_at, high_at, is_used}
use Rattle.diagrams.specs.Decode.{Used}
use Rattle.diagrams.specs.References.{names_record, names_says}

-- x names a record that is not below level l
unfoldable pub not_under : List ℕ → (ℕ → ℕ) → ℕ → ℕ → Bool
not_under t level l x = names_record t x && leb (level (variable_at t (x - 2))) l

unfoldable pub not_below : List ℕ → (ℕ → ℕ) → ℕ → Bool
not_below t level i =
    is_used t i && (not_under t level (level (variable_at t i)) (low_at t i) || not_under t level (level (variable_at t i)) (high_at t i))

-- ---- what it says

abbrev pub NotUnder : List ℕ → (ℕ → ℕ) → ℕ → ℕ → Type 0
NotUnder t level i x = ((2 ≤ x) × (x - 2 < records t)) × (level (variable_at t (x - 2)) ≤ level (variable_at t i))

abbrev pub NotBelow : List ℕ → (ℕ → ℕ) → ℕ → Type 0
NotBelow t level i = Used t i × (NotUnder t level i (low_at t i) ⊎ NotUnder t level i (high_at t i))

pub below_says : (t : List ℕ) (level : ℕ → ℕ) (i : ℕ) → Says (not_below t level i) (NotBelow t level i)
unfolding not_below not_under
below_says t level i = search (says, names_says) depth 12
