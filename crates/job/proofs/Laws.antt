-- The run that the files ask for: one law for each way out, over plain variables.
use Prim.Native.Nat.{ℕ}
use mathlib.Core.List.{List, [], ◌∷◌}
use mathlib.Core.Path.{◌≡◌, refl, ap, ap₂, sym, ◌∙◌}
use borrow.Author.Rules.{rules}
use borrow.Author.Tests.{eq-eqb, ne_eqb}
use lib.ListN.{length, get_or}
use Rattle.lists.specs.Apart.{apart}
use Rattle.std.specs.Prelude.{Err}
use Rattle.checks.specs.Stages.{Verdict, clear, refusal, verdict_of}
use Rattle.checks.specs.declared.Refusal.{Refusal}
use Rattle.checks.specs.declared.Fault.TheVariants.{NoPlan}
use Rattle.runs.specs.OneSwap.{plain_swap}
use Rattle.undo.specs.Stores.{state}
use Rattle.runs.specs.Run.{RunAnswer, store_stages, run_of, RunOutcome}
use Rattle.job.specs.Job.{largest_budget, empty_log, ran_of, unplanned, job_with, JobOutcome}

module _ (t r o g p : List ℕ) where
  module _ {log : List ℕ} (empty : log ≡ empty_log) where
    pub runs_unplanned : {a : RunAnswer} → (length p ≡ 1 → ⊥) → a ≡ unplanned (verdict_of (store_stages plain_swap t r o g log)) → JobOutcome t r o g p a t o
    unfolding job_with
    runs_unplanned n e = rw (ne_eqb (length p) 1 n, e, empty)

    pub runs_planned : (n : ℕ) {a : RunAnswer} {t' o' log' : List ℕ} → length p ≡ 1 → n ≡ get_or p 0 0
        → RunOutcome plain_swap n (state t o log) r g largest_budget a (state t' o' log') → JobOutcome t r o g p a t' o'
    unfolding job_with
    runs_planned n {a} {t'} {o'} {log'} e q h =
        ap ran_of h
        ∙ ap₂ (λ (m : ℕ) (l : List ℕ). ran_of (run_of plain_swap m (state t o l) r g largest_budget)) q empty
        ∙ rw (eq-eqb (length p) 1 e)

    -- no plan is told, and the store is refused, or it is not
    module _ {v : Verdict} (told : length p ≡ 1 → ⊥) (store : v ≡ verdict_of (store_stages plain_swap t r o g log)) where
      pub store_refused : {w : Refusal} → v ≡ Err w → JobOutcome t r o g p (Err w) t o
      store_refused h = runs_unplanned told (ap unplanned (sym h ∙ store))

      pub store_passed : v ≡ clear → JobOutcome t r o g p (Err (refusal NoPlan 0)) t o
      store_passed h = runs_unplanned told (ap unplanned (sym h ∙ store))
