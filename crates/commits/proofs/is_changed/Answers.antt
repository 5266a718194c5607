use Rattle.std.proofs.Common.{rules}
use Rattle.commits.proofs.Laws.{record_changed}
use Rattle.commits.proofs.is_changed.Goals as goal

pub returns : goal.returns
returns c = search (record_changed, rules)
