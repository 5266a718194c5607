use Rattle.std.proofs.Common.{◌≡◌}
use Rattle.lists.specs.Fold.{fold}
use Rattle.orders.specs.Order.{start_order, entered}
use Rattle.orders.proofs.Order.load.Given as goal

abbrev pub invariant-loop-level : goal.invariant-loop-level
invariant-loop-level l = l.order ≡ fold (entered l.bytes) start_order l.level
