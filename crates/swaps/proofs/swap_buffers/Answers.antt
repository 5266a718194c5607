use Rattle.swaps.proofs.Laws.{stored}
use Rattle.swaps.proofs.swap_buffers.Goals as goal

pub commit-requires : goal.commit-requires
commit-requires c = search stored

pub returns-in_default : goal.returns-in_default
returns-in_default c = search stored
