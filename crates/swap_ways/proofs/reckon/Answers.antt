use Rattle.std.proofs.Common.{rules}
use Rattle.swap_ways.proofs.Laws.{reckoned}
use Rattle.swap_ways.proofs.reckon.Goals as goal

pub returns : goal.returns
returns c = search (reckoned, rules)
