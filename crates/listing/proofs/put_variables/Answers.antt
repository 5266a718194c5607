use Rattle.texts.specs.Put.{turns_go}
use Rattle.listing.specs.Text.{variable_text}
use Rattle.listing.proofs.put_variables.Goals as goal

pub loop-variable-preserved : goal.loop-variable-preserved
unfolding variable_text
loop-variable-preserved c = turns_go c.loop-variable.invariant c.put_numbered.ensures (cc)
