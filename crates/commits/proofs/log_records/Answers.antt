use Rattle.std.proofs.Common.{arith, ap, length}
use Rattle.commits.proofs.Laws.{logs, logs_go, logs_rest, logs_room, logs_end}
use Rattle.commits.proofs.log_records.Goals as goal
use Rattle.commits.proofs.log_records.Goals.{then-is_changed, else-is_changed}

pub loop-i-init : goal.loop-i-init
loop-i-init c = search logs

pub overflow_mul-entries : goal.overflow_mul-entries
overflow_mul-entries c =
    omega (
      arith,
      logs_room _ _ _ c.loop-i.invariant c.is_changed.ensures c.if-is_changed.true (omega arith) c.requires.room (omega arith),
    )

pub write-requires : goal.write-requires
write-requires c =
    omega (
      arith,
      ap length c.record_entry.ensures,
      logs_room _ _ _ c.loop-i.invariant c.is_changed.ensures c.if-is_changed.true (omega arith) c.requires.room (omega arith),
    )

pub overflow_add-entries : goal.overflow_add-entries
overflow_add-entries c = search logs

pub loop-i-preserved : goal.loop-i-preserved
loop-i-preserved c =
    elim c.if-is_changed.branch [
      | then-is_changed w ↦
          rw (w.log-is, w.pen-is, w.entries-is)
          (logs_go _ _ _ c.loop-i.invariant c.is_changed.ensures w.if-is_changed.true w.record_entry.ensures w.write.ensures)
      | else-is_changed w ↦
          rw (w.log-is, w.pen-is, w.entries-is)
          (logs_rest _ _ _ c.loop-i.invariant c.is_changed.ensures w.if-is_changed.false)
    ]

pub returns : goal.returns
returns c = logs_end _ _ c.loop-i.invariant (omega arith)
