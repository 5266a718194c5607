use Rattle.texts.specs.Put.{turns_go}
use Rattle.listing.specs.Text.{root_text}
use Rattle.listing.proofs.put_references.Goals as goal

pub loop-k-preserved : goal.loop-k-preserved
unfolding root_text
loop-k-preserved c = turns_go c.loop-k.invariant c.put_numbered.ensures (cc)
