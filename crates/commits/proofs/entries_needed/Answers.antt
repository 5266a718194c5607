use Rattle.std.proofs.Common.{◌≡◌, arith, rules}
use Rattle.lists.specs.Count.{bit, bit_small, counts, count_small}
use Rattle.commits.proofs.Laws.{needed_is}
use Rattle.commits.proofs.entries_needed.Goals as goal

pub loop-i-init : goal.loop-i-init
loop-i-init c = search counts

pub overflow_add-entries : goal.overflow_add-entries
overflow_add-entries c =
    let one : c.from-entries.result ≡ bit c.is_changed.result = search rules in omega (arith, count_small, bit_small c.is_changed.result)

pub overflow_add-result : goal.overflow_add-result
overflow_add-result c = omega (arith, count_small)

pub loop-i-preserved : goal.loop-i-preserved
loop-i-preserved c = search counts

pub returns : goal.returns
returns c = search (needed_is, counts)
