use Rattle.std.proofs.Common.{rules}
use Rattle.swap_reckoning.proofs.Work.add_dying.Goals as goal

pub returns : goal.returns
returns c = search rules
