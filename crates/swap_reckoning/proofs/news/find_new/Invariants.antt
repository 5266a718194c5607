use Rattle.lists.specs.First.{Passed}
use Rattle.swap_reckoning.specs.Searching.{new_at}
use Rattle.swap_reckoning.proofs.news.find_new.Given as goal

abbrev pub invariant-loop-k : goal.invariant-loop-k
invariant-loop-k l = Passed (new_at l.news l.wanted) l.k
