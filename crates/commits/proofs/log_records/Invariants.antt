use Rattle.commits.specs.Steps.{entries_below, LoggedOf}
use Rattle.commits.proofs.log_records.Given as goal

abbrev pub invariant-loop-i : goal.invariant-loop-i
invariant-loop-i l = LoggedOf (entries_below l.table l.image l.i) l.initial.pen.fuel l.initial.log l.log l.entries l.pen.fuel
