use Rattle.swap_names.proofs.Laws.{other_counts, other_passes}
use Rattle.swap_names.proofs.count_other.Goals as goal

pub returns-then-is_used-is_record_of : goal.returns-then-is_used-is_record_of
returns-then-is_used-is_record_of c = search other_counts

pub returns-else-is_used-is_record_of : goal.returns-else-is_used-is_record_of
returns-else-is_used-is_record_of c = search other_passes
