use Rattle.swap_records.specs.Listed.{Lists}
use Rattle.diagrams.specs.Layout.{is_free}
use Rattle.swap_records.proofs.collect.collect_free.Given as goal

abbrev pub invariant-loop-i : goal.invariant-loop-i
invariant-loop-i l = Lists (is_free l.table) l.i l.list
