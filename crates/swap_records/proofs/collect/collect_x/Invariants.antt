use Rattle.swap_records.specs.Listed.{Splits}
use Rattle.swap_records.proofs.collect.collect_x.Given as goal

abbrev pub invariant-loop-i : goal.invariant-loop-i
invariant-loop-i l = Splits l.table l.pair l.i l.crossing l.standing
