use Rattle.checks.specs.Stages.{rows, passed_where, passed_found}
use Rattle.swaps.specs.Outcome.{store_stages}
use Rattle.swaps.proofs.Laws.{placeable}
use Rattle.swaps.proofs.verdict_of_store.Goals as goal

pub returns-in_err-refuse_if : goal.returns-in_err-refuse_if
unfolding store_stages
returns-in_err-refuse_if c = search rows depth 12

pub verdict_of_open_log-requires : goal.verdict_of_open_log-requires
verdict_of_open_log-requires c =
    placeable _ _ _ (passed_where _ _ _ c.bad_sizes.ensures c.refuse_if.ensures c.in_ok-refuse_if.was) c.count_records.ensures

pub returns-in_err-verdict_of_open_log : goal.returns-in_err-verdict_of_open_log
unfolding store_stages
returns-in_err-verdict_of_open_log c = search rows depth 12

pub returns-in_err-refuse_at : goal.returns-in_err-refuse_at
unfolding store_stages
returns-in_err-refuse_at c = search rows depth 12

pub verdict_of_table-requires : goal.verdict_of_table-requires
verdict_of_table-requires c = (
  passed_where _ _ _ c.bad_sizes.ensures c.refuse_if.ensures c.in_ok-refuse_if.was,
  passed_found _ _ _ c.first_bad_place.ensures c.refuse_at.ensures c.in_ok-refuse_at.was,
)

pub returns : goal.returns
unfolding store_stages
returns c = search rows depth 12
