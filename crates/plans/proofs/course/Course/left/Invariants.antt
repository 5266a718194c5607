use Rattle.std.proofs.Common.{◌≡◌, ◌≤◌, ◌*◌}
use Rattle.lists.specs.Count.{count}
use Rattle.lists.specs.Total.{total}
use Rattle.orders.specs.Permutation.{ceiling}
use Rattle.plans.specs.Course.{from, to}
use Rattle.plans.specs.Inversions.{inverted}
use Rattle.plans.proofs.course.Course.left.Given as goal

abbrev pub invariant-loop-v : goal.invariant-loop-v
invariant-loop-v l = (l.sum ≡ total (λ x. count (λ u. inverted (from l.self) (to l.self) u x) x) l.v) × (l.sum ≤ l.v * ceiling)
