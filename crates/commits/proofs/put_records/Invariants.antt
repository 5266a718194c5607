use Rattle.lists.specs.Each.{each}
use Rattle.lists.specs.Which.{which}
use Rattle.undo.specs.Wrote.{Wrote}
use Rattle.undo.specs.Log.{changed}
use Rattle.commits.specs.Steps.{record_pokes}
use Rattle.commits.proofs.put_records.Given as goal

abbrev pub invariant-loop-i : goal.invariant-loop-i
invariant-loop-i l = Wrote l.initial.pen.fuel (each (record_pokes l.image) (which (changed l.initial.table l.image) l.i)) l.initial.table l.table l.pen.fuel
