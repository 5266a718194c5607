use Rattle.checks.specs.Stages.{chain, row_passes, row_refuses}
use Rattle.std.proofs.Common.{sym, ◌∙◌}
use Rattle.check_log.specs.BadLog.{open_stages}
use Rattle.check_log.proofs.Laws.{clear_long}
use Rattle.check_log.proofs.verdict_of_open_log.Goals as goal

pub returns-in_err-verdict_of_log : goal.returns-in_err-verdict_of_log
unfolding open_stages
returns-in_err-verdict_of_log c = search (row_refuses, chain)

pub is_sealed-requires : goal.is_sealed-requires
is_sealed-requires c = clear_long _ _ _ (sym c.verdict_of_log.ensures ∙ c.in_ok-verdict_of_log.was)

pub returns : goal.returns
unfolding open_stages
returns c = search (row_passes, chain)
