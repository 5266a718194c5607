use Rattle.swap_names.proofs.Laws.{counting}
use Rattle.swap_names.proofs.count_roots.Goals as goal

pub loop-k-init : goal.loop-k-init
loop-k-init c = search counting

pub count_name-requires : goal.count_name-requires
count_name-requires c = search counting

pub loop-k-preserved : goal.loop-k-preserved
loop-k-preserved c = search counting
