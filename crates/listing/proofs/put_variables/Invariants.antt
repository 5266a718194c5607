use Rattle.texts.specs.Put.{Turns}
use Rattle.listing.specs.Text.{variable_text}
use Rattle.listing.proofs.put_variables.Given as goal

abbrev pub invariant-loop-variable : goal.invariant-loop-variable
invariant-loop-variable l = Turns (variable_text l.order) l.fn.page l.variable-index l.page
