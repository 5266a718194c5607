use Rattle.std.proofs.Common.{rules}
use Rattle.swap_reckoning.proofs.Laws.{slot_there, slot_past}
use Rattle.swap_reckoning.proofs.news.Sources.slot.Goals as goal

pub returns-then-j-self : goal.returns-then-j-self
returns-then-j-self c = search (slot_there, rules)

pub returns : goal.returns
returns c = search (slot_past, rules)
