use Rattle.count_levels.specs.Held.{Settled}
use Rattle.count_levels.proofs.settle_level.Given as goal

abbrev pub invariant-loop-i : goal.invariant-loop-i
invariant-loop-i l = Settled l.table l.order l.v.0 l.i l.trips
