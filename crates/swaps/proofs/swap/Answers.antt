use Rattle.swaps.proofs.Laws.{swap_whole}
use Rattle.swaps.proofs.swap.Goals as goal

pub returns : goal.returns
returns c = swap_whole c.swap_cut.ensures
