use Rattle.recovery.proofs.Laws.{Backs}
use Rattle.recovery.proofs.put_all.Given as goal

abbrev pub invariant-loop-k : goal.invariant-loop-k
invariant-loop-k l = Backs l.initial.table l.initial.order l.log l.initial.pen.fuel l.k l.table l.order l.pen.fuel
