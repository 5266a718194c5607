use Rattle.std.proofs.Common.{◌∙◌}
use Rattle.check_repeats.specs.Late.{late_repeats}
use Rattle.check_repeats.proofs.classed.search.Goals as goal

pub returns : goal.returns
returns c = c.first_late.ensures ∙ late_repeats _ c.type_inv.table _ c.classes.ensures
