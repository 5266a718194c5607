use Rattle.swap_records.proofs.Laws.{grand}
use Rattle.swap_records.proofs.grandchild.Goals as goal

pub record-requires : goal.record-requires
record-requires c = search grand

pub child-requires : goal.child-requires
child-requires c = search grand

pub returns-then-names_record_of : goal.returns-then-names_record_of
returns-then-names_record_of c = search grand

pub returns : goal.returns
returns c = search grand
