use Rattle.swap_names.proofs.Laws.{counting}
use Rattle.swap_names.proofs.count_others.Goals as goal

pub loop-i-init : goal.loop-i-init
loop-i-init c = search counting

pub count_other-requires : goal.count_other-requires
count_other-requires c = search counting

pub loop-i-preserved : goal.loop-i-preserved
loop-i-preserved c = search counting
