use Rattle.std.proofs.Common.{rules}
use Rattle.swap_names.specs.Slots.{adding}
use Rattle.swap_names.proofs.dying.add_if_dying.Goals as goal

pub push-requires : goal.push-requires
push-requires c = search (adding, rules)

pub returns-then-is_dying : goal.returns-then-is_dying
returns-then-is_dying c = search (adding, rules)

pub returns-else-is_dying : goal.returns-else-is_dying
returns-else-is_dying c = search (adding, rules)
