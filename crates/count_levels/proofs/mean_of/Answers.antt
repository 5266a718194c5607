use Rattle.count_levels.proofs.Laws.{halving}
use Rattle.count_levels.proofs.mean_of.Goals as goal

pub held-low-requires : goal.held-low-requires
held-low-requires c = search halving

pub held-high-requires : goal.held-high-requires
held-high-requires c = search halving

pub mean-requires : goal.mean-requires
mean-requires c = search halving

pub returns-clause-count : goal.returns-clause-count
returns-clause-count c = search halving

pub returns-clause-share : goal.returns-clause-share
returns-clause-share c = search halving
