use Rattle.checks.specs.Stages.{rows, passed_where}
use Rattle.runs.specs.Run.{store_stages}
use Rattle.runs.proofs.Laws.{sizes_right, placeable}
use Rattle.runs.proofs.verdict_of_store.Goals as goal

pub returns-in_err-refuse_if : goal.returns-in_err-refuse_if
unfolding store_stages
returns-in_err-refuse_if c = search rows depth 12

pub verdict_of_open_log-requires : goal.verdict_of_open_log-requires
verdict_of_open_log-requires c =
    placeable _ _ _ _ (passed_where _ _ _ c.bad_run_sizes.ensures c.refuse_if.ensures c.in_ok-refuse_if.was) c.count_records.ensures

pub returns-in_err-verdict_of_open_log : goal.returns-in_err-verdict_of_open_log
unfolding store_stages
returns-in_err-verdict_of_open_log c = search rows depth 12

pub verdict_of_orders-requires : goal.verdict_of_orders-requires
verdict_of_orders-requires c = sizes_right _ _ _ _ (passed_where _ _ _ c.bad_run_sizes.ensures c.refuse_if.ensures c.in_ok-refuse_if.was)

pub returns : goal.returns
unfolding store_stages
returns c = search rows depth 12
