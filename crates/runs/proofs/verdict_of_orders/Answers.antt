use Rattle.checks.specs.Stages.{chain, passed_found}
use Rattle.runs.specs.Run.{order_stages}
use Rattle.runs.proofs.verdict_of_orders.Goals as goal

pub returns-in_err-refuse_at : goal.returns-in_err-refuse_at
unfolding order_stages
returns-in_err-refuse_at c = search chain depth 12

pub returns-in_err-refuse_at-2 : goal.returns-in_err-refuse_at-2
unfolding order_stages
returns-in_err-refuse_at-2 c = search chain depth 12

pub verdict_of_table-requires : goal.verdict_of_table-requires
verdict_of_table-requires c = (c.requires, passed_found _ _ _ c.first_bad_place.ensures c.refuse_at.ensures c.in_ok-refuse_at.was)

pub returns : goal.returns
unfolding order_stages
returns c = search chain depth 12
