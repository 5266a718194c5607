use Rattle.diagrams.specs.References.{naming}
use Rattle.swap_records.proofs.Laws.{named_of, nothing_of}
use Rattle.swap_records.proofs.names_record_of.Goals as goal

pub record-requires : goal.record-requires
record-requires c = search naming

pub is_record_of-requires : goal.is_record_of-requires
is_record_of-requires c = search naming

pub returns-then-names_record : goal.returns-then-names_record
returns-then-names_record c = search (named_of, naming)

pub returns-else-names_record : goal.returns-else-names_record
returns-else-names_record c = search nothing_of
