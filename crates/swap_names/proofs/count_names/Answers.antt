use Rattle.std.proofs.Common.{rules}
use Rattle.swap_names.specs.Dying.{room_roots, room_others, counted}
use Rattle.swap_names.proofs.count_names.Goals as goal

pub count_roots-requires : goal.count_roots-requires
count_roots-requires c = search (room_roots, rules)

pub count_others-requires : goal.count_others-requires
count_others-requires c = search (room_others, rules)

pub returns : goal.returns
returns c = search (counted, rules)
