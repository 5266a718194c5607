-- Run: one slice towards the target, by the plan with a number, with a budget. It is done, or without room, or its log is short, or it is paused, or refused
-- with 1, 14, 15, 2 to 9 or 13. The whole outcome, over the bytes, for any edition of the table.
-- docs/RULES.md, 3, 5 and 7.
use Rattle.std.specs.Prelude.{ℕ, zero, suc, Bool, cond, not, ◌||◌, List, [], ◌∷◌, ◌++◌, ◌≡◌, eqb, length, Result, Ok, Err, MatchResult}
use Rattle.diagrams.specs.Layout.{records}
use Rattle.plans.specs.Plans.{Plan}
use Rattle.plans.specs.Numbered.{plan_of, no_plan, meant}
use Rattle.plans.specs.declared.Plan as coded
use Rattle.slice_rules.specs.Slices as over
use Rattle.slice_rules.specs.Slices.{Relay, Judgement, done, meets, SliceOf}
use Rattle.check_sizes.specs.Sizes.{bad_sizes}
use Rattle.checks.specs.Stages.{number, Verdict, clear, Stage, stage_at, verdict_of}
use Rattle.checks.specs.Check.{order_stage}
use Rattle.checks.specs.declared.Refusal.{Refusal}
use Rattle.checks.specs.declared.Fault.TheVariants.{BadSizes, BadOrder, BadTarget, NoPlan}
use Rattle.undo.specs.Stores.{State, Store, puts}
use Rattle.undo.specs.Calls.{Call, Ended, whole, cut, only}
use Rattle.undo.specs.Log.{entries_held, swap_stores}
use Rattle.check_log.specs.BadLog.{open_stages}
use Rattle.swap_ways.specs.Ways.{is_clear}
use Rattle.swap_ways.specs.declared.Way.{Way}
use Rattle.swap_ways.specs.declared.Way.TheVariants as way
use Rattle.runs.specs.OneSwap.{OneSwap}
use Rattle.runs.specs.declared.Slice.{Slice}
use Rattle.runs.specs.declared.Slice.TheVariants.{Done, NoRoom, LogShort, Paused}

-- ---- what a slice drives: the three buffers, over the same roots

-- the stores of a swap of levels k and k + 1
abbrev pub stores_of : OneSwap → List ℕ → State → ℕ → List Store
stores_of W r s k = swap_stores s (W.table_after s.table r s.order k) k

unfoldable pub relay : OneSwap → List ℕ → Relay State Way
relay W r = record {
  order = λ s. s.order;
  way = λ s k. W.way_of s.table r s.order (entries_held s.log) k;
  clear = is_clear;
  swapped = λ s k. puts (stores_of W r s k) s;
}

-- the stores of a slice: those of each planned swap, one after the other
unfoldable pub run_stores : OneSwap → Plan → List ℕ → List ℕ → ℕ → State → List Store
run_stores W plan r g zero s = []
run_stores W plan r g (suc b) s =
    let rest = run_stores W plan r g b (over.stepped (relay W r) plan g s) in
    cond (over.goes (relay W r) plan g s) (stores_of W r s (over.next (relay W r) plan g s) ++ rest) []

-- ---- the refusals: 1 asks for a target of n bytes too; 14 and 15 come next; 3 is 2 of the target; 13 comes after those of the table
unfoldable pub bad_run_sizes : List ℕ → List ℕ → List ℕ → List ℕ → Bool
bad_run_sizes t r o g = bad_sizes t r o || not (eqb (length g) (length o))

unfoldable pub order_stages : OneSwap → List ℕ → List ℕ → List ℕ → List ℕ → List Stage
order_stages W t r o g = order_stage BadOrder o ∷ order_stage BadTarget g ∷ W.table_stages t r o

unfoldable pub store_stages : OneSwap → List ℕ → List ℕ → List ℕ → List ℕ → List ℕ → List Stage
store_stages W t r o g log = stage_at BadSizes 0 (bad_run_sizes t r o g) ∷ (open_stages log (records t) (length o) ++ order_stages W t r o g)

unfoldable pub run_stages : OneSwap → ℕ → List ℕ → List ℕ → List ℕ → List ℕ → List ℕ → List Stage
run_stages W number t r o g log = store_stages W t r o g log ++ (stage_at NoPlan number (no_plan number) ∷ [])

-- what a row of them answers that ends with this one: the plan with this number, where all pass
abbrev pub Planned : ℕ → List Stage → Result coded.Plan Refusal → Type 0
Planned number ss r = MatchResult r (λ plan. (verdict_of ss ≡ clear) × (meant plan ≡ plan_of number)) (λ w. verdict_of ss ≡ Err w)

-- ---- the answer, judged on the state left: done where the order is the target, else what stands in the way of the next planned swap, else paused
unfoldable pub answer_of : ℕ → ℕ → Judgement Way → Slice
answer_of swaps left done = Done swaps left
answer_of swaps left (meets (way.NoRoom lack)) = NoRoom swaps left lack
answer_of swaps left (meets (way.LogShort short)) = LogShort swaps left short
answer_of swaps left (meets way.Clear) = Paused swaps left

-- what Run answers: what the slice came to, or a refusal
abbrev pub RunAnswer : Type 0
RunAnswer = Result Slice Refusal

-- the answer of a slice that is judged so
abbrev pub told : ℕ → ℕ → Judgement Way → RunAnswer
told swaps left j = Ok (answer_of swaps left j)

abbrev pub slice_answer : SliceOf State Way → RunAnswer
slice_answer w = told w.swaps w.left w.judgement

module _ (W : OneSwap) (plan : Plan) (s : State) (r g : List ℕ) (budget : ℕ) where
  -- a slice that no check refuses
  abbrev pub slice_call : Call RunAnswer
  slice_call = record { answer = slice_answer (over.slice (relay W r) plan g budget s); stores = run_stores W plan r g budget s }

  -- a refusal makes no store
  abbrev pub run_judged : Verdict → Call RunAnswer
  run_judged (Ok _) = slice_call
  run_judged (Err w) = only (Err w)

-- by the plan with a number
module _ (W : OneSwap) (number : ℕ) where
  unfoldable pub run_call : State → List ℕ → List ℕ → ℕ → Call RunAnswer
  run_call s r g budget = run_judged W (plan_of number) s r g budget (verdict_of (run_stages W number s.table r s.order g s.log))

  -- what Run answers and leaves; and what it leaves where it is cut after f stores
  abbrev pub run_of : State → List ℕ → List ℕ → ℕ → Ended RunAnswer
  run_of s r g budget = whole (run_call s r g budget) s

  abbrev pub run_cut : ℕ → State → List ℕ → List ℕ → ℕ → State
  run_cut f s r g budget = cut f (run_call s r g budget) s

  -- what Run may answer, and leave in the buffers
  abbrev pub RunOutcome : State → List ℕ → List ℕ → ℕ → RunAnswer → State → Type 0
  RunOutcome s r g budget a s' = record { answer = a; state = s' } ≡ run_of s r g budget

-- the numbers of each answer: 0 stands for done, 100 for no room, 101 for paused and 102 for log short
abbrev pub numbers : RunAnswer → List ℕ
numbers (Ok (Done swaps left)) = 0 ∷ swaps ∷ left ∷ []
numbers (Ok (NoRoom swaps left lack)) = 100 ∷ swaps ∷ left ∷ lack.level ∷ lack.needed ∷ lack.free ∷ []
numbers (Ok (LogShort swaps left short)) = 102 ∷ swaps ∷ left ∷ short.level ∷ short.needed ∷ short.held ∷ []
numbers (Ok (Paused swaps left)) = 101 ∷ swaps ∷ left ∷ []
numbers (Err w) = number w.fault ∷ w.place ∷ []
