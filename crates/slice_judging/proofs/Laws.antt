-- What each way out of `judge` answers, over plain variables.
use Rattle.std.specs.Prelude.{ℕ, Some, None, List, ◌≡◌}
use Rattle.std.proofs.Common.{ap, ap₂, sym, ◌∙◌}
use Rattle.plans.specs.Course.{from, to}
use Rattle.plans.specs.Inversions.{left}
use Rattle.plans.specs.Plans.{Plan, next_level}
use Rattle.plans.specs.declared.course.Course.{Course}
use Rattle.slice_rules.specs.Slices as over
use Rattle.slice_rules.proofs.Slices as over_laws
use Rattle.undo.specs.Stores.{state}
use Rattle.undo.specs.Log.{entries_held}
use Rattle.swap_ways.specs.Ways.{way_of}
use Rattle.swap_ways.specs.declared.Way.{Way}
use Rattle.runs.specs.OneSwap.{plain_swap}
use Rattle.runs.specs.Run.{relay, answer_of}
use Rattle.runs.specs.declared.Slice.TheVariants.{Done}
use Rattle.slice_judging.specs.Drivable.{Drivable, at_target, on_the_way, next_is}
use Rattle.slice_judging.specs.Judged.{judged_on}

module _ (plan : Plan) {t r o log : List ℕ} {course : Course} (d : Drivable t r o log course) (swaps : ℕ)
    {l : ℕ} (counted : l ≡ left (from course) (to course)) where
  pub judge_done : None ≡ next_level plan (from course) (to course) → Done swaps l ≡ judged_on plain_swap plan (state t o log) r (to course) swaps
  unfolding answer_of over.judge relay
  judge_done e = rw (at_target plan d e, counted, d.bytes)

  pub judge_meets : {k held : ℕ} {w : Way} → Some k ≡ next_level plan (from course) (to course) → held ≡ entries_held log → w ≡ way_of t r o held k
      → answer_of swaps l (over.meets w) ≡ judged_on plain_swap plan (state t o log) r (to course) swaps
  unfolding relay
  judge_meets {k} {held} {w} planned holds asked =
      ap₂ (answer_of swaps) (counted ∙ ap (λ x. left x (to course)) (sym d.bytes))
      (ap over.meets (asked ∙ ap₂ (λ (h i : ℕ). way_of t r o h i) holds (next_is plan d planned))
      ∙ sym (over_laws.meets_next (relay plain_swap r) plan (to course) (state t o log) (on_the_way plan d planned)))
