use Rattle.std.proofs.Common.{refl}
use Rattle.checks.specs.Stages.{stopped_by}
use Rattle.job.specs.Job.{empty_log}
use Rattle.job.proofs.Laws.{store_refused, store_passed, runs_planned}
use Rattle.job.proofs.run.Goals as goal

pub returns-in_err-verdict_of_store : goal.returns-in_err-verdict_of_store
unfolding empty_log
returns-in_err-verdict_of_store c =
    rw (stopped_by c.from_residual.ensures.1 refl)
    (store_refused _ _ _ _ _ refl c.if-plan-ne1.true c.verdict_of_store.ensures c.in_err-verdict_of_store.was)

pub returns-then-plan-ne1 : goal.returns-then-plan-ne1
unfolding empty_log
returns-then-plan-ne1 c = store_passed _ _ _ _ _ refl c.if-plan-ne1.true c.verdict_of_store.ensures c.in_ok-verdict_of_store.was

pub returns : goal.returns
unfolding empty_log
returns c = runs_planned _ _ _ _ _ refl _ c.if-plan-ne1.false c.number_in.ensures.0 c.run.ensures
