use Rattle.swap_records.proofs.Laws.{splitting}
use Rattle.swap_records.proofs.collect.collect_x.Goals as goal

pub loop-i-init : goal.loop-i-init
loop-i-init c = search splitting

pub returns : goal.returns
returns c = search splitting
