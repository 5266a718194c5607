use Rattle.checks.specs.Check.{check_stages}
use Rattle.checks.specs.Stages.{chain, passed_where, passed_found}
use Rattle.checks.proofs.verdict_of_all.Goals as goal

pub returns-in_err-refuse_if : goal.returns-in_err-refuse_if
unfolding check_stages
returns-in_err-refuse_if c = search chain depth 12

pub returns-in_err-refuse_at : goal.returns-in_err-refuse_at
unfolding check_stages
returns-in_err-refuse_at c = search chain

pub verdict_of_table-requires : goal.verdict_of_table-requires
verdict_of_table-requires c = (
  passed_where _ _ _ c.bad_sizes.ensures c.refuse_if.ensures c.in_ok-refuse_if.was,
  passed_found _ _ _ c.first_bad_place.ensures c.refuse_at.ensures c.in_ok-refuse_at.was,
)

pub returns : goal.returns
unfolding check_stages
returns c = search chain
