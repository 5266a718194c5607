use Rattle.swap_names.specs.Naming.{named_other, Counting}
use Rattle.diagrams.specs.Layout.{records}
use Rattle.swap_names.proofs.count_others.Given as goal

abbrev pub invariant-loop-i : goal.invariant-loop-i
invariant-loop-i l = Counting (named_other l.table l.x.0) l.fn.names (records l.table) l.i l.names
