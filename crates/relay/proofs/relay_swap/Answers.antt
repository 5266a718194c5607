use Rattle.relay.proofs.Laws.{swap_tells}
use Rattle.relay.proofs.relay_swap.Goals as goal

pub tell_swap-requires : goal.tell_swap-requires
tell_swap-requires c = search swap_tells

pub returns : goal.returns
returns c = search swap_tells
