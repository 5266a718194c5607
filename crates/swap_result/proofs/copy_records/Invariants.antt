use Rattle.lists.specs.Fold.{Writes}
use Rattle.diagrams.specs.Layout.{records}
use Rattle.swap_result.specs.Image.{stayed}
use Rattle.swap_result.proofs.copy_records.Given as goal

abbrev pub invariant-loop-i : goal.invariant-loop-i
invariant-loop-i l = Writes (stayed l.table) l.fn.image (records l.table) l.i l.image
