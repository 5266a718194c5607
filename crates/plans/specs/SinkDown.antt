-- The plan Sink Down: the target's variable of the last level that differs goes down one level. It is Bring Up seen from the bottom.
-- docs/RULES.md, 5.2.
use Rattle.std.specs.Prelude.{ℕ, List, length, get_or}
use Rattle.lists.specs.Last.{last}
use Rattle.orders.specs.Permutation.{level_of}
use Rattle.plans.specs.Plans.{Plan, differs_at}

-- the last level, nearest the bottom, where order and target differ
unfoldable pub last_difference : List ℕ → List ℕ → ℕ
last_difference o g = last (differs_at o g) (length o)

-- the order has the target's variable of that level at level p: levels p and p + 1 are swapped
unfoldable pub sink_down : Plan
sink_down o g = level_of o (get_or g (last_difference o g) 0)
