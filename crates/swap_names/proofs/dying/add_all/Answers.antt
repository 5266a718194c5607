use Rattle.std.proofs.Common.{rules}
use Rattle.swap_names.specs.Slots.{adding}
use Rattle.swap_names.proofs.dying.add_all.Goals as goal

pub loop-i-init : goal.loop-i-init
loop-i-init c = search (adding, rules)

pub returns : goal.returns
returns c = search (adding, rules)
