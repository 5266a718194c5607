use Rattle.recovery.proofs.Laws.{backs}
use Rattle.recovery.proofs.put_all.Goals as goal

pub loop-k-init : goal.loop-k-init
loop-k-init c = search backs

pub put_back-requires : goal.put_back-requires
put_back-requires c = search backs

pub loop-k-preserved : goal.loop-k-preserved
loop-k-preserved c = search backs

pub returns : goal.returns
returns c = search backs
