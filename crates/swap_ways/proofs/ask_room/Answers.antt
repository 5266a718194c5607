use Rattle.std.proofs.Common.{rules}
use Rattle.swap_ways.proofs.Laws.{asked}
use Rattle.swap_ways.proofs.ask_room.Goals as goal

pub returns : goal.returns
returns c = search (asked, rules)
