use Rattle.swap_names.specs.Naming.{unnamed}
use Rattle.swap_names.proofs.is_unnamed.Goals as goal

pub returns : goal.returns
unfolding unnamed
returns c = cc
