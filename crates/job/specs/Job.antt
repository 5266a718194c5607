-- The program's one run, as a function of the bytes of the store, its target and its plan.
-- docs/RULES.md, 8.1.
use Rattle.std.specs.Prelude.{ℕ, ◌*◌, cond, List, ◌≡◌, eqb, length, get_or, replicate, Ok, Err}
use Rattle.checks.specs.Stages.{Verdict, refusal, verdict_of}
use Rattle.checks.specs.declared.Fault.TheVariants.{NoPlan}
use Rattle.runs.specs.OneSwap.{plain_swap}
use Rattle.undo.specs.Stores.{state}
use Rattle.undo.specs.Calls.{Ended}
use Rattle.undo.specs.Log.{entry_size, most_log_records}
use Rattle.runs.specs.Run.{RunAnswer, store_stages, run_of}

-- the largest number of 32 bits
abbrev pub largest_budget : ℕ
largest_budget = 4294967295

-- the log that the program lends: the longest one, and empty
unfoldable pub empty_log : List ℕ
empty_log = replicate (entry_size * most_log_records) 0

-- what is printed of a run: its answer, and the table and the order that it leaves
pub record Ran : Type 0 where
  pub answer : RunAnswer
  pub table : List ℕ
  pub order : List ℕ

abbrev pub ran_of : Ended RunAnswer → Ran
ran_of e = record { answer = e.answer; table = e.state.table; order = e.state.order }

-- no plan is told: refused by the first of checks 1 to 9 that fails, or else with 13 at place 0
abbrev pub unplanned : Verdict → RunAnswer
unplanned (Err f) = Err f
unplanned (Ok _) = Err (refusal NoPlan 0)

-- One run with the largest budget, from the table, the roots and the order that the files hold, towards the target. The one byte of trip.pln is the
-- plan's number; a file of any other length tells none.
unfoldable pub job_with : List ℕ → List ℕ → List ℕ → List ℕ → List ℕ → List ℕ → Ran
job_with log t r o g p =
    cond (eqb (length p) 1) (ran_of (run_of plain_swap (get_or p 0 0) (state t o log) r g largest_budget))
    (record { answer = unplanned (verdict_of (store_stages plain_swap t r o g log)); table = t; order = o })

abbrev pub job_of : List ℕ → List ℕ → List ℕ → List ℕ → List ℕ → Ran
job_of t r o g p = job_with empty_log t r o g p

-- what the program's run may answer, and leave in the buffers
abbrev pub JobOutcome : List ℕ → List ℕ → List ℕ → List ℕ → List ℕ → RunAnswer → List ℕ → List ℕ → Type 0
JobOutcome t r o g p a t' o' = record { answer = a; table = t'; order = o' } ≡ job_of t r o g p
