use Rattle.std.proofs.Common.{rules, ℕ, List, ap}
use Rattle.orders.specs.Order.{start_order}
use Rattle.orders.specs.declared.Order.{Order}
use Rattle.orders.proofs.Laws.{tabulated_by_from_fn}
use Rattle.orders.proofs.Order.start.Goals as goal

pub returns : goal.returns
unfolding start_order
returns c =
    let same : List ℕ → Order = λ l. record { variables = l; levels = l } in
    ap same (tabulated_by_from_fn (λ k. k) (λ i x p q l k. search rules) c.from_fn-each.ensures.items)
