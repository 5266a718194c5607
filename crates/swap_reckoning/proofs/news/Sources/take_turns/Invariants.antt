use Rattle.swap_reckoning.specs.Reckoned.{Turns}
use Rattle.swap_reckoning.proofs.news.Sources.take_turns.Given as goal

abbrev pub invariant-loop-k : goal.invariant-loop-k
invariant-loop-k l = Turns l.self.table.now l.self.pair l.self.slots.now l.crossing l.news l.kept l.k
