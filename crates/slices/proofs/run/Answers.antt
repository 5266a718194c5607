use Rattle.std.proofs.Common.{rules}
use Rattle.slices.proofs.Laws.{run_whole}
use Rattle.slices.proofs.run.Goals as goal

pub returns : goal.returns
returns c = search (run_whole, rules)
