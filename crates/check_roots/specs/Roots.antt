-- Check 8: root k is past the table or to a free record.
-- docs/RULES.md, 2.2.
use Rattle.std.specs.Prelude.{ℕ, Bool, List}
use Rattle.lists.specs.Says.{Says}
use Rattle.diagrams.specs.Layout.{root_at}
use Rattle.diagrams.specs.References.{dead, Dead, dead_says}

unfoldable pub dead_root : List ℕ → List ℕ → ℕ → Bool
dead_root t r k = dead t (root_at r k)

-- ---- what it says

pub root_says : (t r : List ℕ) (k : ℕ) → Says (dead_root t r k) (Dead t (root_at r k))
unfolding dead_root
root_says t r k = dead_says t (root_at r k)
