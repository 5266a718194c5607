use Rattle.std.proofs.Common.{rules}
use Rattle.runs.proofs.Laws.{planned_last}
use Rattle.runs.proofs.plan_numbered.Goals as goal

pub returns : goal.returns
returns c = planned_last _ _ _ c.try_from.ensures c.map_err.ensures.cases (λ e w q. search rules)
