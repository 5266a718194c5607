use Rattle.check_log.proofs.Laws.{marks}
use Rattle.check_log.proofs.first_bad_entry.Goals as goal

pub count_entries-k-end-requires : goal.count_entries-k-end-requires
count_entries-k-end-requires c = search marks

pub loop-k-init : goal.loop-k-init
loop-k-init c = search marks

pub is_misplaced-requires : goal.is_misplaced-requires
is_misplaced-requires c = search marks

pub returns-then-is_misplaced : goal.returns-then-is_misplaced
returns-then-is_misplaced c = search marks

pub slot-at-requires : goal.slot-at-requires
slot-at-requires c = search marks

pub bounds-marked-at : goal.bounds-marked-at
bounds-marked-at c = search marks

pub returns-then-marked-at : goal.returns-then-marked-at
returns-then-marked-at c = search marks

pub bounds-marked-at-in-loop-k : goal.bounds-marked-at-in-loop-k
bounds-marked-at-in-loop-k c = search marks

pub loop-k-preserved : goal.loop-k-preserved
loop-k-preserved c = search marks

pub returns : goal.returns
returns c = search marks
