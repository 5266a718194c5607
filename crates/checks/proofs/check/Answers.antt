use Rattle.std.proofs.Common.{rules, ap, sym, ◌∙◌}
use Rattle.checks.specs.Check.{check_of, answered, used}
use Rattle.checks.specs.Stages.{stopped_by}
use Rattle.checks.proofs.check.Goals as goal

pub returns-in_err-verdict_of_all : goal.returns-in_err-verdict_of_all
unfolding check_of
returns-in_err-verdict_of_all c =
    stopped_by c.from_residual.ensures.1
    (ap (λ v. answered v (used c.args.table.now)) (sym c.in_err-verdict_of_all.was ∙ c.verdict_of_all.ensures))

pub returns : goal.returns
unfolding check_of
returns c = search rules
