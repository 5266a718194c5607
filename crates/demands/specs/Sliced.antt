-- Demand 3, for each plan: slices by it add up to one run; every order on the way is the plan's; each answer says what it means.
--
-- So a run that leaves the buffers alone is refused by `orders_followed` and `left_falls`: after m swaps the order is the plan's m-th, and left is
-- smaller by m. One that does the whole job at once is refused by `within_budget`: no more swaps than the budget, and the order is the plan's
-- after just so many. One that invents its numbers is refused by `orders_followed`, `left_told` and demand 1's `run_no_room_only`.
use Rattle.std.specs.Prelude.{ℕ, ◌+◌, ◌≤◌, ◌≡◌, Ok}
use mathlib.Core.List.{List, foldr}
use Rattle.std.proofs.Common.{ap}
use Rattle.plans.specs.Inversions.{left}
use Rattle.plans.specs.Plans.{reached}
use Rattle.plans.specs.Numbered.{plan_of}
use Rattle.undo.specs.Stores.{State}
use Rattle.undo.specs.Calls.{Ended}
use Rattle.runs.specs.OneSwap.{plain_swap}
use Rattle.runs.specs.Run.{RunAnswer, run_of}
use Rattle.runs.specs.Answers.{swaps_in, left_in, with_more}
use Rattle.runs.proofs.Adding.{runs_of, run_add, run_slices}
use Rattle.runs.proofs.Theorems as run
use Rattle.runs.specs.Theorems.{Startable}
use Rattle.runs.specs.declared.Slice.TheVariants.{Done, Paused}

-- all slices use the plan with this number
module _ (plan : ℕ) (s : State) (r g : List ℕ) where
  -- the answer and the buffers that a run from a state leaves
  abbrev ran_from : State → ℕ → Ended RunAnswer
  ran_from s' b = run_of plain_swap plan s' r g b

  abbrev ran : ℕ → Ended RunAnswer
  ran = ran_from s

  -- ---- slices add up, of any bytes, refused ones too

  -- a slice of a swaps and then one of b leave what one of a + b leaves: table, order and log; its answer is the later one's, with the swaps of the first added
  pub two_slices : (a b : ℕ) →
      let w = ran a in
      let v = ran_from w.state b in
      (v.state ≡ (ran (a + b)).state) × (with_more (swaps_in w.answer) v.answer ≡ (ran (a + b)).answer)
  two_slices a b =
      let e = run_add plain_swap plan r g s a b in
      (ap (λ (w : Ended RunAnswer). w.state) e, ap (λ (w : Ended RunAnswer). w.answer) e)

  -- and so for any number of slices: `runs_of` makes them one after the other, and tells them as one in just this way
  pub many_slices : (b : ℕ) (rest : List ℕ) → runs_of plain_swap plan r g s b rest ≡ ran (b + foldr ◌+◌ 0 rest)
  many_slices = run_slices plain_swap plan r g s

  -- ---- a run that no check refuses

  module _ (starts : Startable plain_swap plan s r g) (b : ℕ) where
    -- the order left is the plan's after exactly as many swaps as the answer says
    pub orders_followed : (ran b).state.order ≡ reached (plan_of plan) g (swaps_in (ran b).answer) s.order
    orders_followed = run.run_orders plain_swap plan s r g starts b

    pub within_budget : swaps_in (ran b).answer ≤ b
    within_budget = run.run_within plain_swap plan s r g starts b

    -- so without room or with a log too short, whatever the budget, table, order and log are those after just as many swaps; and as they were after none
    pub buffers_told : (ran b).state ≡ (ran (swaps_in (ran b).answer)).state
    buffers_told = run.run_buffers plain_swap plan s r g starts b

    pub none_made : swaps_in (ran b).answer ≡ 0 → (ran b).state ≡ s
    none_made = run.run_none plain_swap plan s r g starts b

    -- left, as the answer tells it, is that of the order left; its fall is the number of swaps
    pub left_told : left_in (ran b).answer ≡ left (ran b).state.order g
    left_told = run.run_left plain_swap plan s r g starts b

    pub left_falls : left (ran b).state.order g + swaps_in (ran b).answer ≡ left s.order g
    left_falls = run.run_fall plain_swap plan s r g starts b

    -- done exactly where the order left is the target; as many swaps were then made as there were inversions, by any plan
    pub done_if : (ran b).state.order ≡ g → (ran b).answer ≡ Ok (Done (swaps_in (ran b).answer) 0)
    done_if = run.run_arrives plain_swap plan s r g starts b

    pub done_only : (m l : ℕ) → (ran b).answer ≡ Ok (Done m l) → ((ran b).state.order ≡ g) × (m ≡ left s.order g) × (l ≡ 0)
    done_only = run.run_done plain_swap plan s r g starts b

    -- a paused run has made exactly its budget of swaps
    pub paused_spent : (m l : ℕ) → (ran b).answer ≡ Ok (Paused m l) → m ≡ b
    paused_spent m l e = (run.run_paused plain_swap plan s r g starts b m l e).2

    -- with a budget of at least left it is never paused
    pub enough : (m l : ℕ) → left s.order g ≤ b → (ran b).answer ≡ Ok (Paused m l) → ⊥
    enough = run.run_enough plain_swap plan s r g starts b
