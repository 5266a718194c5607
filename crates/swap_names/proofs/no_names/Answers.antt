use Rattle.std.proofs.Common.{rules}
use Rattle.diagrams.specs.Noting.{no_notes}
use Rattle.swap_names.proofs.no_names.Goals as goal

pub returns : goal.returns
unfolding no_notes
returns c = search rules
