use Rattle.reading.proofs.Laws.{taking}
use Rattle.reading.proofs.child.Goals as goal

pub returns-then-not-names_record : goal.returns-then-not-names_record
returns-then-not-names_record c = search taking

pub record-i-requires : goal.record-i-requires
record-i-requires c = search taking

pub is_free-requires : goal.is_free-requires
is_free-requires c = search taking

pub returns-then-is_free : goal.returns-then-is_free
returns-then-is_free c = search taking

pub variable-requires : goal.variable-requires
variable-requires c = search taking

pub high-requires : goal.high-requires
high-requires c = search taking

pub returns-then-input : goal.returns-then-input
returns-then-input c = search taking

pub low-requires : goal.low-requires
low-requires c = search taking

pub returns : goal.returns
returns c = search taking
