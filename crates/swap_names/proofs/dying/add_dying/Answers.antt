use Rattle.std.proofs.Common.{rules}
use Rattle.swap_names.specs.Slots.{names_for, slots_listed}
use Rattle.swap_names.proofs.dying.add_dying.Goals as goal

pub add_all-requires : goal.add_all-requires
add_all-requires c = search (names_for, rules)

pub returns : goal.returns
returns c = search (slots_listed, rules)
