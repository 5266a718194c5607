-- Swap levels k and k + 1: made, no room (level, needed, free), log short (level, entries needed, entries held), or refused with 1, 14, 15, 2, 4 to 9 or 12.
-- The whole outcome, over the bytes.
-- docs/RULES.md, 3, 4 and 7.
use Rattle.std.specs.Prelude.{ℕ, ◌-◌, Bool, List, [], ◌∷◌, ◌++◌, ◌≡◌, leb, length, Result, Ok, Err}
use Rattle.diagrams.specs.Layout.{records}
use Rattle.check_sizes.specs.Sizes.{bad_sizes}
use Rattle.checks.specs.Stages.{number, Verdict, Stage, stage_at, verdict_of}
use Rattle.checks.specs.Check.{order_stage, table_stages}
use Rattle.checks.specs.declared.Refusal.{Refusal}
use Rattle.checks.specs.declared.Fault.TheVariants.{BadSizes, BadOrder, NoLevel}
use Rattle.undo.specs.Stores.{State}
use Rattle.undo.specs.Calls.{Call, Ended, whole, cut, only}
use Rattle.undo.specs.Log.{entries_held, swap_stores}
use Rattle.check_log.specs.BadLog.{open_stages}
use Rattle.swap_ways.specs.Ways.{table_after, way_of}
use Rattle.swap_ways.specs.declared.Way.{Way}
use Rattle.swap_ways.specs.declared.Way.TheVariants as way

-- 1, then 14 and 15 of the log, then Check's others
unfoldable pub store_stages : List ℕ → List ℕ → List ℕ → List ℕ → List Stage
store_stages t r o log = stage_at BadSizes 0 (bad_sizes t r o) ∷ (open_stages log (records t) (length o) ++ (order_stage BadOrder o ∷ table_stages t r o))

-- 12: there is no level k with a level below it; the place is the level
abbrev pub no_level : List ℕ → ℕ → Bool
no_level o k = leb (length o - 1) k

unfoldable pub swap_stages : List ℕ → List ℕ → List ℕ → List ℕ → ℕ → List Stage
swap_stages t r o log k = store_stages t r o log ++ (stage_at NoLevel k (no_level o k) ∷ [])

-- what Swap answers: what stands in its way (where nothing does, it is made), or a refusal
abbrev pub SwapAnswer : Type 0
SwapAnswer = Result Way Refusal

-- the answer, and the stores: with something in its way a swap makes none
abbrev pub swap_after : State → List ℕ → ℕ → Way → Call SwapAnswer
swap_after s r k way.Clear = record { answer = Ok way.Clear; stores = swap_stores s (table_after s.table r s.order k) k }
swap_after s r k (way.NoRoom l) = only (Ok (way.NoRoom l))
swap_after s r k (way.LogShort l) = only (Ok (way.LogShort l))

-- what stands in the way of a swap of a state
abbrev pub swap_way : State → List ℕ → ℕ → Way
swap_way s r k = way_of s.table r s.order (entries_held s.log) k

abbrev pub swap_judged : State → List ℕ → ℕ → Verdict → Call SwapAnswer
swap_judged s r k (Ok _) = swap_after s r k (swap_way s r k)
swap_judged s r k (Err w) = only (Err w)

unfoldable pub swap_call : State → List ℕ → ℕ → Call SwapAnswer
swap_call s r k = swap_judged s r k (verdict_of (swap_stages s.table r s.order s.log k))

-- what Swap answers and leaves; and what it leaves where it is cut after f stores
abbrev pub swap_of : State → List ℕ → ℕ → Ended SwapAnswer
swap_of s r k = whole (swap_call s r k) s

abbrev pub swap_cut : ℕ → State → List ℕ → ℕ → State
swap_cut f s r k = cut f (swap_call s r k) s

-- what Swap may answer, and leave in the buffers
abbrev pub SwapOutcome : State → List ℕ → ℕ → SwapAnswer → State → Type 0
SwapOutcome s r k a s' = record { answer = a; state = s' } ≡ swap_of s r k

-- cut after f stores
pub record SwapStopped (f : ℕ) (s : State) (r : List ℕ) (k : ℕ) (a : SwapAnswer) (s' : State) : Type 0 where
  pub answer : a ≡ (swap_call s r k).answer
  pub state : s' ≡ swap_cut f s r k

-- the numbers of each answer: 0 stands for made, 100 for no room and 102 for log short
abbrev pub numbers : SwapAnswer → List ℕ
numbers (Ok way.Clear) = 0 ∷ []
numbers (Ok (way.NoRoom l)) = 100 ∷ l.level ∷ l.needed ∷ l.free ∷ []
numbers (Ok (way.LogShort l)) = 102 ∷ l.level ∷ l.needed ∷ l.held ∷ []
numbers (Err w) = number w.fault ∷ w.place ∷ []
