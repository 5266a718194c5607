use Rattle.diagrams.specs.Layout.{records}
use Rattle.classes.specs.Classes.{Classes}
use Rattle.classes.specs.Keys.{part}
use Rattle.classes.proofs.tell_apart.Given as goal

abbrev pub invariant-loop-k : goal.invariant-loop-k
invariant-loop-k l = Classes (part l.table l.k-counter) (records l.table) l.class
