use Rattle.std.proofs.Common.{arith, ◌∙◌}
use Rattle.reading.proofs.Laws.{constant_value, spent_value, child_value}
use Rattle.reading.proofs.+reads_true.Goals as goal
use Rattle.reading.proofs.+reads_true.Goals.{then-is_constant-via-then-is_constant, then-is_constant-via-else-is_constant+then-levels-eq0}

pub returns-then-is_constant : goal.returns-then-is_constant
returns-then-is_constant n c =
    c.eq.ensures
    ∙ elim c.then-is_constant.branch [
      | then-is_constant-via-then-is_constant w ↦ constant_value _ _ _ _ c.is_constant.ensures w.if-is_constant.true
      | then-is_constant-via-else-is_constant+then-levels-eq0 w ↦ spent_value _ _ _ _ w.if-levels-eq0.true
    ]

pub returns : goal.returns
returns n c = child_value _ _ _ _ c.child.ensures c.reads_true.ensures (omega arith)
