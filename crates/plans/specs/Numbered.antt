-- The plans by number, and refusal 13: a number that no plan has.
-- docs/RULES.md, 2.2 and 5.2.
use Rattle.std.specs.Prelude.{ℕ, Bool, true, false, List, [], ◌∷◌, ◌≡◌, Result, MatchResult, leb, length, get_or}
use Rattle.plans.specs.Plans.{Plan}
use Rattle.plans.specs.BringUp.{bring_up}
use Rattle.plans.specs.SinkDown.{sink_down}
use Rattle.plans.specs.Nearest.{lowest_inversion, highest_inversion}
use Rattle.plans.specs.declared.Plan as coded
use Rattle.plans.specs.declared.NoPlan.{NoPlan}
use Rattle.plans.specs.declared.Plan.TheVariants.{BringUp, SinkDown, LowestInversion, HighestInversion}

-- from 0 on
abbrev pub plans : List Plan
plans = bring_up ∷ sink_down ∷ lowest_inversion ∷ highest_inversion ∷ []

-- the plan with this number; where there is none the run is refused, so that it doesn't matter which one stands here
unfoldable pub plan_of : ℕ → Plan
plan_of number = get_or plans number highest_inversion

-- ---- 13: no plan has this number; the place is the number
unfoldable pub no_plan : ℕ → Bool
no_plan number = leb (length plans) number

-- ---- the plan that the code's own name of it means

abbrev pub number_of : coded.Plan → ℕ
number_of BringUp = 0
number_of SinkDown = 1
number_of LowestInversion = 2
number_of HighestInversion = 3

unfoldable pub meant : coded.Plan → Plan
meant plan = plan_of (number_of plan)

-- the plan that a number stands for, or the number that no plan has
abbrev pub Numbers : ℕ → Result coded.Plan NoPlan → Type 0
Numbers number r = MatchResult r (λ plan. (meant plan ≡ plan_of number) × (no_plan number ≡ false)) (λ e. (e.0 ≡ number) × (no_plan number ≡ true))
