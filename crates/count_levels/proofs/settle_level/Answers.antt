use Rattle.count_levels.proofs.Laws.{leveling}
use Rattle.count_levels.proofs.settle_level.Goals as goal

pub loop-i-init : goal.loop-i-init
loop-i-init c = search leveling

pub returns : goal.returns
returns c = search leveling
