-- What can be driven on its course: right sizes, an empty log, and the order of the lent bytes; and what that says of its next planned swap.
use Rattle.std.specs.Prelude.{ℕ, ◌+◌, ◌<◌, true, false, Some, None, List, ◌≡◌, length}
use Rattle.std.proofs.Math.Path.{ap}
use Rattle.std.proofs.Common.{sym, ◌∙◌, arith}
use Rattle.orders.specs.Permutation.{ceiling}
use Rattle.orders.specs.Arranged.{arranged_length}
use Rattle.plans.specs.Course.{from, to}
use Rattle.plans.specs.Plans.{Plan, same?, next_level}
use Rattle.plans.specs.Numbered.{meant}
use Rattle.plans.specs.declared.course.Course.{Course}
use Rattle.plans.proofs.NumberedLaws.{meant_lawful}
use Rattle.plans.proofs.Next.{some_next, none_next}
use Rattle.plans.specs.declared.Plan as coded
use Rattle.plans.proofs.Towards.{arranged_adjacent}
use Rattle.slice_rules.specs.Slices as over
use Rattle.check_sizes.specs.Sizes.{TableSizes}
use Rattle.undo.specs.Stores.{state}
use Rattle.check_log.specs.BadLog.{LogSizes}
use Rattle.check_log.specs.Open.{Open}
use Rattle.check_log.proofs.Open.{open_sizes}
use Rattle.swaps.specs.Work.{Storable}
use Rattle.runs.specs.OneSwap.{plain_swap}
use Rattle.runs.specs.Run.{relay}

-- what the code asks for: right sizes, an empty log, and the course's order in the lent bytes
pub record Drivable (t r o log : List ℕ) (course : Course) : Type 0 where
  pub sized : TableSizes t r
  pub log_open : Open log
  pub bytes : o ≡ from course

module _ {t r o log : List ℕ} {course : Course} (d : Drivable t r o log course) where
  pub log_sized : LogSizes log
  log_sized = open_sizes d.log_open

  pub table_sized : TableSizes t r
  table_sized = d.sized

  order_long : length o ≡ course.n
  order_long = ap length d.bytes ∙ arranged_length course.arranged.0

  -- the levels of the next planned swap
  module _ (name : coded.Plan) {k : ℕ} (planned : Some k ≡ next_level (meant name) (from course) (to course)) where
    pub plan_inside : k + 1 < course.n
    plan_inside =
        let w = some_next (meant name) (from course) (to course) planned in
        let l = rw (arranged_length course.arranged.0) at (arranged_adjacent course.arranged.0 course.arranged.1 w.0 (meant_lawful name)).within in
        rw w.1 l

    pub plan_in_order : k + 1 < length o
    plan_in_order = rw order_long plan_inside

    pub plan_low : k + 1 < ceiling
    plan_low = omega (arith, plan_inside, course.arranged.0.few)

    pub plan_storable : Storable t r o log k
    plan_storable = record {
      sized = d.sized;
      level = plan_in_order;
      few_levels = rw order_long course.arranged.0.few;
      log_sized = open_sizes d.log_open;
    }

-- ---- in the words of slices

module _ (plan : Plan) {t r o log : List ℕ} {course : Course} (d : Drivable t r o log course) where
  -- no swap is planned: the order is the target
  pub at_target : None ≡ next_level plan (from course) (to course) → over.arrived (relay plain_swap r) plan (to course) (state t o log) ≡ true
  unfolding over.arrived relay
  at_target e = ap (λ x. same? x (to course)) d.bytes ∙ none_next plan (from course) (to course) e

  -- one is planned: the order isn't the target, and these are its levels
  module _ {k : ℕ} (planned : Some k ≡ next_level plan (from course) (to course)) where
    pub on_the_way : over.arrived (relay plain_swap r) plan (to course) (state t o log) ≡ false
    unfolding over.arrived relay
    on_the_way = ap (λ x. same? x (to course)) d.bytes ∙ (some_next plan (from course) (to course) planned).0

    pub next_is : k ≡ over.next (relay plain_swap r) plan (to course) (state t o log)
    unfolding over.next relay
    next_is = (some_next plan (from course) (to course) planned).1 ∙ ap (λ x. plan x (to course)) (sym d.bytes)
