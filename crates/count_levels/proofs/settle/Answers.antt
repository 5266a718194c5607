use Rattle.std.proofs.Common.{◌≡◌, rules}
use Rattle.count_levels.proofs.Laws.{settling}
use Rattle.count_levels.proofs.settle.Goals as goal

pub mean_of-requires-clause-low : goal.mean_of-requires-clause-low
mean_of-requires-clause-low c = search settling

pub mean_of-requires-clause-high : goal.mean_of-requires-clause-high
mean_of-requires-clause-high c = search settling

pub returns-then-eq : goal.returns-then-eq
returns-then-eq c = let same : c.variable.result.0 ≡ c.args.v.0 = search rules in search settling
