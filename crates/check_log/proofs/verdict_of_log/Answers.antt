use Rattle.std.proofs.Common.{arith}
use Rattle.checks.specs.Stages.{chain, passed_where}
use Rattle.check_log.specs.BadLog.{log_stages, entry_stages}
use Rattle.check_log.proofs.Laws.{size_long}
use Rattle.check_log.proofs.verdict_of_log.Goals as goal

pub returns-in_err-refuse_if : goal.returns-in_err-refuse_if
unfolding log_stages
returns-in_err-refuse_if c = search chain depth 12

pub bad_seal-requires : goal.bad_seal-requires
bad_seal-requires c = size_long _ (passed_where _ _ _ c.bad_size.ensures c.refuse_if.ensures c.in_ok-refuse_if.was)

pub returns-in_err-refuse_if-2 : goal.returns-in_err-refuse_if-2
unfolding log_stages
returns-in_err-refuse_if-2 c = search chain depth 12

pub overflow_sub-log : goal.overflow_sub-log
overflow_sub-log c = omega (arith, size_long _ (passed_where _ _ _ c.bad_size.ensures c.refuse_if.ensures c.in_ok-refuse_if.was))

pub returns : goal.returns
unfolding log_stages entry_stages
returns c = search chain depth 12
