use Rattle.texts.specs.Put.{Turns}
use Rattle.listing.specs.Text.{root_text}
use Rattle.listing.proofs.put_references.Given as goal

abbrev pub invariant-loop-k : goal.invariant-loop-k
invariant-loop-k l = Turns (root_text l.roots) l.fn.page l.k l.page
