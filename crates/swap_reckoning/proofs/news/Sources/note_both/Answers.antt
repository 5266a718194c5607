use Rattle.swap_reckoning.proofs.Laws.{asking}
use Rattle.swap_reckoning.proofs.news.Sources.note_both.Goals as goal

pub note-low-requires : goal.note-low-requires
note-low-requires c = search asking

pub note-high-requires : goal.note-high-requires
note-high-requires c = search asking

pub returns : goal.returns
returns c = search asking
