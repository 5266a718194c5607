use Rattle.plans.specs.Course.{to}
use Rattle.slices.proofs.Laws.{Driving}
use Rattle.slices.proofs.drive.Given as goal

abbrev pub invariant-loop-swaps : goal.invariant-loop-swaps
invariant-loop-swaps l =
    Driving l.plan (to l.fn.course) l.fn.table l.roots l.fn.order l.fn.log l.budget l.fn.pen.fuel l.table l.order l.log l.course l.swaps l.pen.fuel
