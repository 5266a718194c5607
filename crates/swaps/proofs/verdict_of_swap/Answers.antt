use Rattle.checks.specs.Stages.{rows}
use Rattle.swaps.specs.Outcome.{swap_stages}
use Rattle.swaps.proofs.Laws.{some_level}
use Rattle.swaps.proofs.verdict_of_swap.Goals as goal

pub returns-in_err-verdict_of_store : goal.returns-in_err-verdict_of_store
unfolding swap_stages
returns-in_err-verdict_of_store c = search rows

pub overflow_sub-order : goal.overflow_sub-order
overflow_sub-order c = some_level _ _ _ _ c.verdict_of_store.ensures c.in_ok-verdict_of_store.was

pub returns : goal.returns
unfolding swap_stages
returns c = search rows depth 12
