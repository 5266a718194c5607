use Rattle.swap_reckoning.proofs.Laws.{turning}
use Rattle.swap_reckoning.proofs.news.Sources.take_turn.Goals as goal

pub note_both-requires : goal.note_both-requires
note_both-requires c = search turning

pub push-requires : goal.push-requires
push-requires c = search turning

pub returns : goal.returns
returns c = search turning
