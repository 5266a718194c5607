use Rattle.runs.specs.Run.{run_stages}
use Rattle.runs.proofs.Laws.{planned_stops, planned_goes}
use Rattle.runs.proofs.verdict_of_run.Goals as goal

pub returns-in_err-verdict_of_store : goal.returns-in_err-verdict_of_store
unfolding run_stages
returns-in_err-verdict_of_store c = planned_stops _ _ _ c.verdict_of_store.ensures _ c.in_err-verdict_of_store.was c.from_residual.ensures.1

pub returns : goal.returns
unfolding run_stages
returns c = planned_goes _ _ _ c.verdict_of_store.ensures _ c.in_ok-verdict_of_store.was c.plan_numbered.ensures
