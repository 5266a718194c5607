use Rattle.std.proofs.Common.{rules}
use Rattle.lists.specs.Fold.{writes_go}
use Rattle.swap_result.proofs.Laws.{stays_stored, storing}
use Rattle.swap_result.proofs.copy_records.Goals as goal

pub loop-i-init : goal.loop-i-init
loop-i-init c = search storing

pub store-requires : goal.store-requires
store-requires c = search storing

pub loop-i-preserved : goal.loop-i-preserved
loop-i-preserved c = writes_go c.loop-i.invariant (stays_stored _ _ _ _ c.of.ensures.0 c.store.ensures) (search rules) (search rules)

pub returns : goal.returns
returns c = search storing
