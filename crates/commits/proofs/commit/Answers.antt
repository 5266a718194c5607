use Rattle.std.proofs.Common.{rules}
use Rattle.commits.proofs.Laws.{commit_made}
use Rattle.commits.proofs.commit.Goals as goal

pub returns : goal.returns
returns c = search (commit_made, rules)
