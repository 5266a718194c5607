use Rattle.swap_names.specs.Slots.{Adding}
use Rattle.swap_names.proofs.dying.add_all.Given as goal

abbrev pub invariant-loop-i : goal.invariant-loop-i
invariant-loop-i l = Adding l.table l.y.0 l.names l.i l.slots
