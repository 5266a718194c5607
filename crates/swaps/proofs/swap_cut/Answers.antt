use Rattle.swaps.proofs.Laws.{swap_refused, swap_storable, swap_done}
use Rattle.swaps.proofs.swap_cut.Goals as goal

pub returns-in_err-verdict_of_swap : goal.returns-in_err-verdict_of_swap
returns-in_err-verdict_of_swap c = swap_refused _ _ _ _ _ c.verdict_of_swap.ensures c.in_err-verdict_of_swap.was c.from_residual.ensures.1

pub swap_buffers-requires : goal.swap_buffers-requires
swap_buffers-requires c = swap_storable _ _ _ _ _ c.verdict_of_swap.ensures c.in_ok-verdict_of_swap.was

pub returns : goal.returns
returns c = swap_done _ _ _ _ _ c.verdict_of_swap.ensures c.in_ok-verdict_of_swap.was c.swap_buffers.ensures
