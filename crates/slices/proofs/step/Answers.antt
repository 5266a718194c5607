use Rattle.std.proofs.Common.{rules, sym, ◌∙◌}
use Rattle.orders.specs.Arranged.{arranged_inverse}
use Rattle.slice_judging.specs.Drivable.{plan_inside, plan_low, plan_storable}
use Rattle.slices.proofs.Laws.{step_rests, step_lacks, step_short, step_moves}
use Rattle.slices.proofs.step.Goals as goal

pub returns-in_err-level : goal.returns-in_err-level
returns-in_err-level c = step_rests _ c.requires _ (search rules) (sym c.in_err-level.was ∙ c.next_level.ensures)

pub swap_buffers-requires : goal.swap_buffers-requires
swap_buffers-requires c = plan_storable c.requires c.args.plan (sym c.in_ok-level.was ∙ c.next_level.ensures)

pub exchanged-requires : goal.exchanged-requires
exchanged-requires c =
    (plan_low c.requires c.args.plan (sym c.in_ok-level.was ∙ c.next_level.ensures), arranged_inverse c.args.course.now.arranged.0)

pub returns-in-Clear : goal.returns-in-Clear
returns-in-Clear c =
    let planned = sym c.in_ok-level.was ∙ c.next_level.ensures in
    step_moves _ c.requires planned (plan_inside c.requires c.args.plan planned) c.exchanged.ensures c.in-Clear.ensures

pub returns-in-NoRoom : goal.returns-in-NoRoom
returns-in-NoRoom c = step_lacks _ c.requires (sym c.in_ok-level.was ∙ c.next_level.ensures) c.in-NoRoom.ensures

pub returns-in-LogShort : goal.returns-in-LogShort
returns-in-LogShort c = step_short _ c.requires (sym c.in_ok-level.was ∙ c.next_level.ensures) c.in-LogShort.ensures
