-- Recover, over the bytes: it puts back what a sealed log holds and clears the seal, or refuses with 1 or 14. A cut may have left the other buffers
-- half written, so they get no further checks.
-- docs/RULES.md, 3 and 7.
use Rattle.std.specs.Prelude.{ℕ, List, [], ◌∷◌, ◌≡◌, length, Result, Ok, Err}
use Rattle.diagrams.specs.Layout.{records}
use Rattle.check_sizes.specs.Sizes.{bad_sizes}
use Rattle.checks.specs.Stages.{number, Verdict, Stage, stage_at, verdict_of}
use Rattle.checks.specs.declared.Refusal.{Refusal}
use Rattle.checks.specs.declared.Fault.TheVariants.{BadSizes}
use Rattle.undo.specs.Stores.{State}
use Rattle.undo.specs.Calls.{Call, Ended, whole, cut, only}
use Rattle.undo.specs.Log.{counted, recovery_stores}
use Rattle.check_log.specs.BadLog.{log_stages}

-- 1, without roots, and 14
unfoldable pub recover_stages : List ℕ → List ℕ → List ℕ → List Stage
recover_stages t o log = stage_at BadSizes 0 (bad_sizes t [] o) ∷ log_stages log (records t) (length o)

-- what Recover answers: how many entries it put back, or a refusal
abbrev pub RecoverAnswer : Type 0
RecoverAnswer = Result ℕ Refusal

abbrev pub recover_judged : State → Verdict → Call RecoverAnswer
recover_judged s (Ok _) = record { answer = Ok (counted s.log); stores = recovery_stores s.log }
recover_judged s (Err w) = only (Err w)

unfoldable pub recover_call : State → Call RecoverAnswer
recover_call s = recover_judged s (verdict_of (recover_stages s.table s.order s.log))

-- what Recover answers and leaves; and what it leaves where it is cut after f stores
abbrev pub recover_of : State → Ended RecoverAnswer
recover_of s = whole (recover_call s) s

abbrev pub recover_cut : ℕ → State → State
recover_cut f s = cut f (recover_call s) s

-- what Recover may answer, and leave in the buffers
abbrev pub RecoverOutcome : State → RecoverAnswer → State → Type 0
RecoverOutcome s a s' = record { answer = a; state = s' } ≡ recover_of s

-- cut after f stores
pub record RecoverStopped (f : ℕ) (s : State) (a : RecoverAnswer) (s' : State) : Type 0 where
  pub answer : a ≡ (recover_call s).answer
  pub state : s' ≡ recover_cut f s

-- the numbers of each answer: 0 stands for put back
abbrev pub numbers : RecoverAnswer → List ℕ
numbers (Ok n) = 0 ∷ n ∷ []
numbers (Err w) = number w.fault ∷ w.place ∷ []
