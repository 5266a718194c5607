use Rattle.std.proofs.Common.{rules}
use Rattle.swap_reckoning.specs.Searching.{matches_at}
use Rattle.swap_reckoning.proofs.news.Sources.matches.Goals as goal

pub returns : goal.returns
unfolding matches_at
returns c = search rules
