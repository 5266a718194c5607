use Rattle.swap_records.proofs.Laws.{splitting}
use Rattle.swap_records.proofs.collect.split_record.Goals as goal

pub push_if-requires : goal.push_if-requires
push_if-requires c = search splitting

pub push_if-requires-then-is_record_of : goal.push_if-requires-then-is_record_of
push_if-requires-then-is_record_of c = search splitting

pub returns-then-is_record_of : goal.returns-then-is_record_of
returns-then-is_record_of c = search splitting

pub returns-else-is_record_of : goal.returns-else-is_record_of
returns-else-is_record_of c = search splitting
