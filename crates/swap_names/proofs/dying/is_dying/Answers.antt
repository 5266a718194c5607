use Rattle.swap_names.proofs.Laws.{dying_by_lem}
use Rattle.swap_names.proofs.dying.is_dying.Goals as goal

pub returns : goal.returns
returns c = search dying_by_lem
