use Rattle.swap_names.proofs.Laws.{room_left, both_counts}
use Rattle.swap_names.proofs.count_both.Goals as goal

pub count_name-requires-2 : goal.count_name-requires-2
count_name-requires-2 c = search room_left

pub returns : goal.returns
returns c = search both_counts
