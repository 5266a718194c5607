-- Check 6: record i is used, and its low and high reference are the same.
-- docs/RULES.md, 2.2.
use Rattle.std.specs.Prelude.{ℕ, Bool, ◌&&◌, List, ◌≡◌, eqb}
use Rattle.lists.specs.Says.{Says, says}
use Rattle.diagrams.specs.Layout.{low_at, high_at, is_used}
use Rattle.diagrams.specs.Decode.{Used}

unfoldable pub low_is_high : List ℕ → ℕ → Bool
low_is_high t i = is_used t i && eqb (low_at t i) (high_at t i)

-- ---- what it says

pub equal_says : (t : List ℕ) (i : ℕ) → Says (low_is_high t i) (Used t i × (low_at t i ≡ high_at t i))
unfolding low_is_high
equal_says t i = search says
