use Rattle.checks.specs.Check.{table_stages}
use Rattle.checks.specs.Stages.{chain}
use Rattle.checks.proofs.Laws.{table}
use Rattle.checks.proofs.verdict_of_table.Goals as goal

pub returns-in_err-refuse_at : goal.returns-in_err-refuse_at
unfolding table_stages
returns-in_err-refuse_at c = search chain depth 12

pub first_not_below-requires : goal.first_not_below-requires
first_not_below-requires c = search table

pub returns-in_err-refuse_at-2 : goal.returns-in_err-refuse_at-2
unfolding table_stages
returns-in_err-refuse_at-2 c = search chain depth 12

pub returns-in_err-refuse_at-3 : goal.returns-in_err-refuse_at-3
unfolding table_stages
returns-in_err-refuse_at-3 c = search chain depth 12

pub returns-in_err-refuse_at-4 : goal.returns-in_err-refuse_at-4
unfolding table_stages
returns-in_err-refuse_at-4 c = search chain depth 12

pub returns-in_err-refuse_at-5 : goal.returns-in_err-refuse_at-5
unfolding table_stages
returns-in_err-refuse_at-5 c = search chain depth 12

pub first_idle-requires : goal.first_idle-requires
first_idle-requires c = search table

pub returns : goal.returns
unfolding table_stages
returns c = search chain depth 12
