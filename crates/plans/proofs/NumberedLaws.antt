-- Laws of what specs/Numbered.antt defines.
use Rattle.std.specs.Prelude.{ℕ, zero, suc, true, ◌≡◌, refl}
use Rattle.std.proofs.Common.{sym}
use Rattle.lists.specs.Says.{true_false}
use Rattle.plans.specs.Plans.{Lawful}
use Rattle.plans.proofs.BringUp.{bring_up_lawful}
use Rattle.plans.proofs.SinkDown.{sink_down_lawful}
use Rattle.plans.proofs.Nearest.{lowest_lawful, highest_lawful}
use Rattle.plans.specs.declared.Plan as coded
use Rattle.plans.specs.Numbered.{meant, number_of, plan_of, no_plan}

-- ---- each has the law of a plan

pub plan_of_lawful : (number : ℕ) → Lawful (plan_of number)
unfolding plan_of
plan_of_lawful zero = bring_up_lawful
plan_of_lawful (suc zero) = sink_down_lawful
plan_of_lawful (suc (suc zero)) = lowest_lawful
plan_of_lawful (suc (suc (suc zero))) = highest_lawful
plan_of_lawful (suc (suc (suc (suc number)))) = highest_lawful

pub meant_lawful : (plan : coded.Plan) → Lawful (meant plan)
unfolding meant
meant_lawful plan = plan_of_lawful (number_of plan)

-- ---- past the last one stands the last one

pub plan_past : (number : ℕ) → no_plan number ≡ true → plan_of 3 ≡ plan_of number
unfolding no_plan plan_of
plan_past zero p = true_false (sym p)
plan_past (suc zero) p = true_false (sym p)
plan_past (suc (suc zero)) p = true_false (sym p)
plan_past (suc (suc (suc zero))) p = refl
plan_past (suc (suc (suc (suc number)))) p = refl
