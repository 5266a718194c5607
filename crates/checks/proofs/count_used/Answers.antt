use Rattle.std.proofs.Common.{arith}
use Rattle.lists.specs.Count.{count_small, bit_small}
use Rattle.diagrams.specs.Layout.{is_used}
use Rattle.lists.specs.Count.{counts}
use Rattle.checks.proofs.count_used.Goals as goal

pub loop-i-init : goal.loop-i-init
loop-i-init c = search counts

pub loop-i-preserved : goal.loop-i-preserved
loop-i-preserved c = search counts

pub returns : goal.returns
returns c = search counts

pub overflow_add-found : goal.overflow_add-found
overflow_add-found c =
    omega (arith, c.loop-i.invariant, count_small (is_used c.args.table.now) c.loop-i.i, bit_small c.is_used.result, c.from-found.ensures)
