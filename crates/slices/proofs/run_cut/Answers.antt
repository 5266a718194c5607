use Rattle.slices.proofs.Laws.{run_ready, run_refused, run_sliced}
use Rattle.slices.proofs.run_cut.Goals as goal

pub returns-in_err-plan : goal.returns-in_err-plan
returns-in_err-plan c = run_refused _ _ _ _ _ _ _ (rw c.in_err-plan.was at c.verdict_of_run.ensures) c.from_residual.ensures.1

pub run_slice-requires : goal.run_slice-requires
run_slice-requires c = run_ready _ _ _ _ _ _ _ (rw c.in_ok-plan.was at c.verdict_of_run.ensures)

pub returns : goal.returns
returns c = run_sliced _ _ _ _ _ _ _ (rw c.in_ok-plan.was at c.verdict_of_run.ensures) _ c.run_slice.ensures
