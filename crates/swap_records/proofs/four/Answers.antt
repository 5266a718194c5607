use Rattle.std.proofs.Common.{rules}
use Rattle.std.specs.Prelude.{true, false}
use Rattle.swap_rules.specs.Swap.{f00, f01, f10, f11}
use Rattle.swap_records.proofs.Laws.{grand_of}
use Rattle.swap_records.proofs.four.Goals as goal

pub returns : goal.returns
unfolding f00 f01 f10 f11
returns c = search (grand_of false, grand_of true, rules)
