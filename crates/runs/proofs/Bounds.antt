-- The numbers of an answer of Run are small: it makes no more swaps than its budget; left, level, needed and free are those of a table that can be used, and
-- no log holds more entries than it has records.
use Rattle.std.specs.Prelude.{ℕ, ◌*◌, ◌≤◌, ◌<◌, List, [], ◌∷◌, ◌≡◌, refl, Ok, Err}
use Rattle.std.proofs.Common.{append_assoc, ap}
use native.Mathlib.Omega.{arith}
use Rattle.std.proofs.Math.ListN.{length}
use Rattle.lists.specs.Apart.{apart}
use Rattle.lists.specs.Below.{Below}
use Rattle.diagrams.specs.Layout.{most_records, records}
use Rattle.orders.specs.Permutation.{ceiling}
use Rattle.plans.specs.Inversions.{left_small}
use Rattle.plans.specs.Numbered.{plan_of, no_plan}
use Rattle.checks.specs.Stages.{number, stage_at, FailsFirst, here, later, passed_only}
use Rattle.checks.specs.Check.{table_stages}
use Rattle.checks.specs.declared.Fault.{Fault}
use Rattle.checks.specs.declared.Fault.TheVariants.{NoPlan}
use Rattle.checks.specs.Theorems.{Bounded}
use Rattle.checks.proofs.Theorems.{refusal_below, table_bounded}
use Rattle.undo.specs.Stores.{State}
use Rattle.undo.specs.Calls.{Ended}
use Rattle.undo.specs.Log.{entries_held}
use Rattle.check_log.proofs.Open.{open_sizes}
use Rattle.check_log.specs.Bounds.{open_below}
use Rattle.swap_rules.specs.Swap.{x_at, y_at}
use Rattle.swap_ways.specs.Ways.{table_after}
use Rattle.swaps.proofs.Bounds.{room_small, entries_small, held_small}
use Rattle.swap_ways.specs.Room.{lacks_then, short_then}
use Rattle.swap_ways.specs.declared.Lack.{Lack}
use Rattle.swap_ways.specs.declared.Short.{Short}
use Rattle.runs.specs.OneSwap.{plain_swap}
use Rattle.runs.specs.Run.{RunAnswer, order_stages, store_stages, run_stages, run_of, numbers}
use Rattle.runs.specs.Answers.{swaps_in, left_in}
use Rattle.runs.specs.Theorems.{Startable}
use Rattle.runs.proofs.Theorems.{run_sizes, run_refuses_only, run_startable, run_usable, run_open, run_within, run_left}
use Rattle.runs.proofs.Theorems.{run_lacks, run_shorts, run_inside}
use Rattle.runs.specs.declared.Slice.TheVariants.{Done, NoRoom, LogShort, Paused}

-- ---- a refusal

module _ (numbered : ℕ) (s : State) (r g : List ℕ) where
  abbrev t : List ℕ
  t = s.table

  abbrev o : List ℕ
  o = s.order

  refused_small : (m : ℕ) (k : Fault) (x : ℕ) → most_records ≤ m → numbered < m → FailsFirst (run_stages plain_swap numbered t r o g s.log) k x
      → (number k < m) × (x < m)
  unfolding run_stages store_stages order_stages table_stages Bounded
  refused_small m _ x b l (here h d p) = (omega arith, omega arith)
  refused_small m k x b l (later h f) =
      let w = run_sizes t r o g (passed_only 0 h) in
      let few : length o ≤ m = omega (arith, w.0.few_variables) in
      let rest = table_bounded t r o (stage_at NoPlan numbered (no_plan numbered) ∷ []) m b (omega arith, omega arith, tt) w.0 in
      open_below s.log (records t) (length o) m _ (omega arith) k x
      (λ i y e. refusal_below m _ i y (omega arith, few, (omega arith, omega (arith, w.1), rest)) e) (rw (append_assoc _ _ _) at f)

-- ---- every number of an answer is below m

module _ (numbered : ℕ) (s : State) (r g : List ℕ) (budget m : ℕ) (big : 2 * most_records < m) (fits : budget < m) (small : numbered < m) where
  -- the answer and the buffers left
  abbrev ran : Ended RunAnswer
  ran = run_of plain_swap numbered s r g budget

  abbrev t' : List ℕ
  t' = ran.state.table

  abbrev o' : List ℕ
  o' = ran.state.order

  -- the level of the plan's next swap
  abbrev next : ℕ
  next = plan_of numbered o' g

  module _ (starts : Startable plain_swap numbered s r g) where
    swaps_below : {a : RunAnswer} → ran.answer ≡ a → swaps_in a < m
    swaps_below e = omega (arith, ap swaps_in e, run_within plain_swap numbered s r g starts budget)

    left_below : {a : RunAnswer} → ran.answer ≡ a → left_in a < m
    left_below e =
        let few = (run_usable plain_swap numbered s r g starts budget).sizes.few_variables in
        omega (arith, ap left_in e, run_left plain_swap numbered s r g starts budget, left_small o' g ceiling few, few)

    level_below : (o' ≡ g → ⊥) → next < m
    level_below n =
        omega (arith, run_inside plain_swap numbered s r g starts budget n, (run_usable plain_swap numbered s r g starts budget).sizes.few_variables)

    lack_below : (i l : ℕ) (k : Lack) → ran.answer ≡ Ok (NoRoom i l k) → (k.level < m) × (k.needed < m) × (k.free < m)
    lack_below i l k e =
        let w = run_lacks plain_swap numbered s r g starts budget i l k e in
        let is = (lacks_then t' r o' (entries_held ran.state.log) next k w.1).1 in
        let few = (run_usable plain_swap numbered s r g starts budget).sizes.few_records in
        let small = room_small t' (x_at o' next) (y_at o' next) m big few in (
          omega (arith, ap (λ (z : Lack). z.level) is, level_below w.0),
          omega (arith, ap (λ (z : Lack). z.needed) is, small.0),
          omega (arith, ap (λ (z : Lack). z.free) is, small.1),
        )

    short_below : (i l : ℕ) (k : Short) → ran.answer ≡ Ok (LogShort i l k) → (k.level < m) × (k.needed < m) × (k.held < m)
    short_below i l k e =
        let w = run_shorts plain_swap numbered s r g starts budget i l k e in
        let is = (short_then t' r o' (entries_held ran.state.log) next k w.1).2 in
        let few = (run_usable plain_swap numbered s r g starts budget).sizes.few_records in
        let held = held_small ran.state.log m (omega arith) (open_sizes (run_open plain_swap numbered s r g starts budget)) in (
          omega (arith, ap (λ (z : Short). z.level) is, level_below w.0),
          omega (arith, ap (λ (z : Short). z.needed) is, entries_small t' (table_after t' r o' next) m (omega arith) few),
          omega (arith, ap (λ (z : Short). z.held) is, held),
        )

    swaps_left : {a : RunAnswer} → ran.answer ≡ a → (swaps_in a < m) × (left_in a < m)
    swaps_left e = (swaps_below e, left_below e)

  pub run_numbers_small : Below m (numbers ran.answer)
  run_numbers_small = go ran.answer refl
    where
      go : (a : RunAnswer) → ran.answer ≡ a → Below m (numbers a)
      go (Err f) e =
          let first = run_refuses_only plain_swap numbered s r g budget f.fault f.place e in
          let w = refused_small numbered s r g m f.fault f.place (omega arith) small first in
          (w.0, (w.1, tt))
      go (Ok (Done i l)) e =
          let w = swaps_left (run_startable plain_swap numbered s r g budget (λ f q. apart (cc))) e in
          (omega arith, (w.0, (w.1, tt)))
      go (Ok (Paused i l)) e =
          let w = swaps_left (run_startable plain_swap numbered s r g budget (λ f q. apart (cc))) e in
          (omega arith, (w.0, (w.1, tt)))
      go (Ok (NoRoom i l k)) e =
          let starts = run_startable plain_swap numbered s r g budget (λ f q. apart (cc)) in
          let w = swaps_left starts e in
          let v = lack_below starts i l k e in
          (omega arith, (w.0, (w.1, (v.0, (v.1, (v.2, tt))))))
      go (Ok (LogShort i l k)) e =
          let starts = run_startable plain_swap numbered s r g budget (λ f q. apart (cc)) in
          let w = swaps_left starts e in
          let v = short_below starts i l k e in
          (omega arith, (w.0, (w.1, (v.0, (v.1, (v.2, tt))))))
