use Rattle.std.specs.Prelude.{ltb}
use Rattle.std.proofs.Common.{rules, tests, refl, ne_eqb}
use Rattle.reading.specs.Read.{bad_inputs}
use Rattle.std.proofs.lemmas.Iterator.{YieldsList-from_slice}
use Rattle.std.proofs.lemmas.Iterator.Search.{any_from_yields_List}
use Rattle.reading.proofs.Laws.{inputs_told}
use Rattle.reading.proofs.bad_inputs.Goals as goal

pub returns-then-inputs-order : goal.returns-then-inputs-order
unfolding bad_inputs
returns-then-inputs-order c = rw (ne_eqb _ _ c.if-inputs-order.true) refl

pub returns-else-inputs-order : goal.returns-else-inputs-order
returns-else-inputs-order c =
    inputs_told _ _ c.if-inputs-order.false
    (any_from_yields_List {all = c.args.inputs.now} (λ x. ltb 1 x) _ _ _ c.any.ensures.ran
    (YieldsList-from_slice _ (search rules)) (λ x b q k. search (rules, tests)))
