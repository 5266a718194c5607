use Rattle.std.proofs.Common.{rules}
use Rattle.swap_records.proofs.Laws.{crossing_at}
use Rattle.swap_records.proofs.is_crossing.Goals as goal

pub returns : goal.returns
returns c = search (crossing_at, rules)
