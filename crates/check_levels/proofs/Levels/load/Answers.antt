use Rattle.std.proofs.Common.{ap, ◌∙◌, length}
use Rattle.std.proofs.Math.Path.{fun_ext}
use Rattle.orders.specs.declared.Order.{Order}
use Rattle.orders.specs.Order.{level_in}
use Rattle.orders.specs.Load.{load_levels}
use Rattle.check_levels.proofs.Levels.load.Goals as goal

-- the levels of a loaded order are those of its bytes
pub returns : goal.returns
returns c =
    let o = c.args.order.now in
    ap (λ (z : Order). level_in z.levels (length o)) c.load.ensures ∙ fun_ext (load_levels o c.requires.1 c.requires.0)
