use Rattle.recovery.proofs.Laws.{recover_refused, recover_fits, recovered}
use Rattle.recovery.proofs.recover_cut.Goals as goal

pub returns-in_err-verdict_of_recover : goal.returns-in_err-verdict_of_recover
returns-in_err-verdict_of_recover c = recover_refused c.verdict_of_recover.ensures c.in_err-verdict_of_recover.was c.from_residual.ensures.1

pub put_logged-requires : goal.put_logged-requires
put_logged-requires c = recover_fits c.verdict_of_recover.ensures c.in_ok-verdict_of_recover.was

pub returns : goal.returns
returns c = recovered c.verdict_of_recover.ensures c.in_ok-verdict_of_recover.was c.put_logged.ensures
