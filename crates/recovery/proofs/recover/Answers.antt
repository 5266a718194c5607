use Rattle.std.proofs.Common.{rules}
use Rattle.recovery.proofs.Laws.{recover_whole}
use Rattle.recovery.proofs.recover.Goals as goal

pub returns : goal.returns
returns c = search (recover_whole, rules)
