-- Slices add up, over the bytes, by the plan with any number and of any bytes, refused ones too.
use Rattle.std.specs.Prelude.{ℕ, ◌+◌, ◌≡◌, refl, Ok, Err}
use mathlib.Core.List.{List, [], ◌∷◌, foldr}
use Rattle.std.proofs.Math.Path.{ap}
use Rattle.std.proofs.Common.{sym, ◌∙◌, add-zero}
use Rattle.plans.specs.Numbered.{plan_of}
use Rattle.slice_rules.specs.Slices as over
use Rattle.slice_rules.proofs.Slices as over_laws
use Rattle.slice_rules.specs.Slices.{SliceOf}
use Rattle.checks.specs.Stages.{Verdict, verdict_of, clear_only}
use Rattle.checks.specs.declared.Refusal.{Refusal}
use Rattle.undo.specs.Stores.{State, puts}
use Rattle.undo.specs.Calls.{Ended, whole}
use Rattle.swap_ways.specs.declared.Way.{Way}
use Rattle.runs.specs.OneSwap.{OneSwap}
use Rattle.runs.specs.Run.{RunAnswer, relay, run_stages, run_judged, run_call, run_of}
use Rattle.runs.specs.Answers.{as_one, ran_to, ran_join}
use Rattle.runs.specs.Theorems.{Startable}
use Rattle.runs.proofs.Theorems.{run_starts, run_is, run_state, run_restarts}

module _ (W : OneSwap) (number : ℕ) (r g : List ℕ) where
  -- a run and more runs, each over the buffers that the one before left, told as one
  abbrev pub runs_of : State → ℕ → List ℕ → Ended RunAnswer
  runs_of s b [] = run_of W number s r g b
  runs_of s b (c ∷ rest) = as_one (run_of W number s r g b) (runs_of (run_of W number s r g b).state c rest)

  module _ (s : State) (starts : Startable W number s r g) where
    abbrev S : ℕ → State → SliceOf State Way
    S = over.slice (relay W r) (plan_of number) g

    -- the run after a run is the slice from the state that the first one left
    run_next : (a b : ℕ) → run_of W number (run_of W number s r g a).state r g b ≡ ran_to (S b (S a s).state)
    unfolding over.slice
    run_next a b =
        run_is W number (run_of W number s r g a).state r g (run_restarts W number s r g starts a) b
        ∙ ap (λ (z : State). ran_to (over.slice (relay W r) (plan_of number) g b z)) (run_state W number s r g starts a)

    add_started : (a b : ℕ) → as_one (run_of W number s r g a) (run_of W number (run_of W number s r g a).state r g b) ≡ run_of W number s r g (a + b)
    add_started a b =
        ap (as_one (run_of W number s r g a)) (run_next a b)
        ∙ ap (λ w. as_one w (ran_to (S b (S a s).state))) (run_is W number s r g starts a)
        ∙ ran_join (S a s) (S b (S a s).state)
        ∙ ap ran_to (over_laws.slice_add (relay W r) (plan_of number) g a b s)
        ∙ sym (run_is W number s r g starts (a + b))

  -- a refused run changes nothing, and so is refused again, whatever the budget
  refused_again : (s : State) (f : Refusal) → verdict_of (run_stages W number s.table r s.order g s.log) ≡ Err f
      → (b : ℕ) → run_of W number s r g b ≡ record { answer = Err f; state = s }
  unfolding run_call puts
  refused_again s f e b = ap (λ v. whole (run_judged W (plan_of number) s r g b v) s) e

  -- two runs are one with the sum of their budgets
  pub run_add : (s : State) (a b : ℕ) → as_one (run_of W number s r g a) (run_of W number (run_of W number s r g a).state r g b) ≡ run_of W number s r g (a + b)
  run_add s a b = go (verdict_of (run_stages W number s.table r s.order g s.log)) refl
    where
      go : (v : Verdict) → verdict_of (run_stages W number s.table r s.order g s.log) ≡ v
          → as_one (run_of W number s r g a) (run_of W number (run_of W number s r g a).state r g b) ≡ run_of W number s r g (a + b)
      go (Ok _) e = add_started s (run_starts W s r g number (clear_only (run_stages W number s.table r s.order g s.log) e)) a b
      go (Err f) e =
          ap (λ (w : Ended RunAnswer). as_one w (run_of W number w.state r g b)) (refused_again s f e a)
          ∙ ap (as_one (record { answer = Err f; state = s })) (refused_again s f e b)
          ∙ sym (refused_again s f e (a + b))

  -- any number of runs are one with the sum of their budgets
  pub run_slices : (s : State) (b : ℕ) (rest : List ℕ) → runs_of s b rest ≡ run_of W number s r g (b + foldr ◌+◌ 0 rest)
  run_slices s b [] = ap (run_of W number s r g) (sym (add-zero b))
  run_slices s b (c ∷ rest) =
      ap (as_one (run_of W number s r g b)) (run_slices (run_of W number s r g b).state c rest) ∙ run_add s b (c + foldr ◌+◌ 0 rest)
