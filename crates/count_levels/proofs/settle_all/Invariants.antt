use Rattle.count_levels.specs.Held.{RightFrom}
use Rattle.count_levels.proofs.settle_all.Given as goal

abbrev pub invariant-loop-level : goal.invariant-loop-level
invariant-loop-level l = RightFrom l.table l.order l.level l.trips
