use Rattle.swap_result.proofs.Laws.{storing}
use Rattle.swap_result.proofs.place_records.Goals as goal

pub loop-k-init : goal.loop-k-init
loop-k-init c = search storing

pub store-requires : goal.store-requires
store-requires c = search storing

pub loop-k-preserved : goal.loop-k-preserved
loop-k-preserved c = search storing

pub returns : goal.returns
returns c = search storing
