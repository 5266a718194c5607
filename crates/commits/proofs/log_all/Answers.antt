use Rattle.std.proofs.Common.{rules}
use Rattle.commits.proofs.Laws.{log_made}
use Rattle.commits.proofs.log_all.Goals as goal

pub returns : goal.returns
returns c = search (log_made, rules)
