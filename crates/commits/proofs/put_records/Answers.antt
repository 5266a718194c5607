use Rattle.commits.proofs.Laws.{puts, puts_go, puts_rest}
use Rattle.commits.proofs.put_records.Goals as goal
use Rattle.commits.proofs.put_records.Goals.{then-is_changed, else-is_changed}

pub loop-i-init : goal.loop-i-init
loop-i-init c = search puts

pub loop-i-preserved : goal.loop-i-preserved
loop-i-preserved c =
    elim c.if-is_changed.branch [
      | then-is_changed w ↦
          rw (w.table-is, w.pen-is)
          (puts_go _ _ _ c.loop-i.invariant c.is_changed.ensures w.if-is_changed.true w.eight.ensures w.write.ensures)
      | else-is_changed w ↦
          rw (w.table-is, w.pen-is) (puts_rest _ _ _ c.loop-i.invariant c.is_changed.ensures w.if-is_changed.false)
    ]

pub returns : goal.returns
returns c = search puts
