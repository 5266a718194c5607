use Rattle.check_log.specs.Slots.{Marked}
use Rattle.check_log.proofs.first_bad_entry.Given as goal

abbrev pub invariant-loop-k : goal.invariant-loop-k
invariant-loop-k l = Marked l.log l.records l.levels l.k l.marked
