use Rattle.std.proofs.Common.{rules}
use Rattle.swap_records.proofs.Laws.{record_of}
use Rattle.swap_records.proofs.is_record_of.Goals as goal

pub returns : goal.returns
returns c = search (record_of, rules)
