use Rattle.checks.specs.Stages.{chain, passed_where}
use Rattle.recovery.specs.Recover.{recover_stages}
use Rattle.recovery.proofs.Laws.{placeable}
use Rattle.recovery.proofs.verdict_of_recover.Goals as goal

pub returns-in_err-refuse_if : goal.returns-in_err-refuse_if
unfolding recover_stages
returns-in_err-refuse_if c = search chain

pub verdict_of_log-requires : goal.verdict_of_log-requires
verdict_of_log-requires c =
    placeable _ _ (passed_where _ _ _ c.bad_sizes.ensures c.refuse_if.ensures c.in_ok-refuse_if.was) c.count_records.ensures

pub returns : goal.returns
unfolding recover_stages
returns c = search chain
