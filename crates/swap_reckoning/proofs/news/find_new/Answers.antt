use Rattle.lists.specs.Found.{seek}
use Rattle.swap_reckoning.specs.Searching.{new_at}
use Rattle.swap_reckoning.proofs.news.find_new.Goals as goal

pub loop-k-init : goal.loop-k-init
loop-k-init c = search seek

pub returns-then-eq : goal.returns-then-eq
unfolding new_at
returns-then-eq c = search seek

pub loop-k-preserved : goal.loop-k-preserved
unfolding new_at
loop-k-preserved c = search seek

pub returns : goal.returns
returns c = search seek
