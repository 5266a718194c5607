use Rattle.std.proofs.Common.{rules}
use Rattle.commits.proofs.Laws.{seal_made}
use Rattle.commits.proofs.seal.Goals as goal

pub returns : goal.returns
returns c = search (seal_made, rules)
