use Rattle.std.proofs.Common.{rules}
use Rattle.swap_reckoning.specs.Reckoned.{first_sorted}
use Rattle.swap_reckoning.proofs.Work.sort_records.Goals as goal

pub returns : goal.returns
returns c = (first_sorted c.collect_x.ensures c.collect_free.ensures (search rules) (search rules), search rules)
