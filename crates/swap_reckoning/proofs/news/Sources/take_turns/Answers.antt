use Rattle.swap_reckoning.proofs.Laws.{turning}
use Rattle.swap_reckoning.proofs.news.Sources.take_turns.Goals as goal

pub loop-k-init : goal.loop-k-init
loop-k-init c = search turning

pub take_turn-requires : goal.take_turn-requires
take_turn-requires c = search turning

pub loop-k-preserved : goal.loop-k-preserved
loop-k-preserved c = search turning

pub returns : goal.returns
returns c = search turning
