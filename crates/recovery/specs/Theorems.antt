-- What Recover answers, and when: one outcome for each input, when it refuses, and that a second one changes nothing more.
use Rattle.std.specs.Prelude.{ℕ, ◌-◌, ◌≤◌, Bool, true, false, List, [], ◌∷◌, ◌++◌, ◌≡◌, refl, eqb, length, get_or, set, Ok, Err}
use Rattle.std.proofs.Common.{ap, sym, ◌∙◌, arith, length-set, get_or-set_same, ne_eqb}
use Rattle.checks.specs.Stages.{Verdict, AllPass, also, FailsFirst, refusal, verdict_of, passed_only, clear_only, refused_if, refused_only}
use Rattle.checks.specs.declared.Fault.{Fault}
use Rattle.lists.specs.Apart.{apart}
use Rattle.undo.specs.Stores.{in_log, State, Store, put, puts, puts_append}
use Rattle.undo.specs.Mending.{puts_long}
use Rattle.undo.specs.Calls.{Ended, only, puts_none}
use Rattle.undo.specs.Log.{entry_size, most_log_records, seal_at, seal_mark, is_sealed, seal_count, logged, putting, clearing, recovery_stores}
use Rattle.undo.specs.Counts.{enough}
use Rattle.undo.proofs.Counts.{recovery_few}
use Rattle.check_log.specs.BadLog.{log_stages, entry_stages, log_sizes, seal_few}
use Rattle.recovery.specs.Recover.{RecoverAnswer, recover_stages, recover_judged, recover_call, recover_of, RecoverOutcome}

-- no recovery makes more stores than the library has fuel for
pub few_stores : (s : State) → length (recover_call s).stores ≤ enough
unfolding recover_call recover_stages log_stages entry_stages
few_stores s = go (verdict_of (recover_stages s.table s.order s.log)) refl
  where
    counts_few : AllPass (recover_stages s.table s.order s.log) → is_sealed s.log ≡ true → seal_count s.log ≤ most_log_records
    counts_few (also z (also size (also seal rest))) e =
        let sizes = log_sizes s.log (passed_only 0 size) in
        omega (arith, seal_few s.log e (passed_only _ seal), sizes.some, sizes.few)

    go : (v : Verdict) → verdict_of (recover_stages s.table s.order s.log) ≡ v → length (recover_judged s v).stores ≤ enough
    go (Ok _) e = recovery_few s.log (counts_few (clear_only (recover_stages s.table s.order s.log) e))
    go (Err w) e = omega arith

-- one outcome for each input
pub recover_one : (s : State) {s₁ s₂ : State} {a b : RecoverAnswer} → RecoverOutcome s a s₁ → RecoverOutcome s b s₂ → (a ≡ b) × (s₁ ≡ s₂)
recover_one s p q = (ap (λ (e : Ended RecoverAnswer). e.answer) (p ∙ sym q), ap (λ (e : Ended RecoverAnswer). e.state) (p ∙ sym q))

-- Recover refuses with a fault at p exactly where its check fails at p and at no place before it, and every earlier check passes everywhere; it changes
-- nothing then
pub recover_refuses : (s : State) (k : Fault) (p : ℕ) → FailsFirst (recover_stages s.table s.order s.log) k p → recover_call s ≡ only (Err (refusal k p))
unfolding recover_call
recover_refuses s k p f = ap (recover_judged s) (refused_if (recover_stages s.table s.order s.log) k p f)

pub recover_refuses_only : (s : State) (k : Fault) (p : ℕ) → (recover_call s).answer ≡ Err (refusal k p) → FailsFirst (recover_stages s.table s.order s.log) k p
unfolding recover_call
recover_refuses_only s k p e = refused_only (recover_stages s.table s.order s.log) k p (go (verdict_of (recover_stages s.table s.order s.log)) e)
  where
    go : (v : Verdict) → (recover_judged s v).answer ≡ Err (refusal k p) → v ≡ Err (refusal k p)
    go (Ok _) q = apart (cc)
    go (Err f) q = cc

-- ---- a recovery after a recovery changes nothing more

-- the last store of a recovery clears the seal
cleared : (s : State) (before : List Store) → entry_size ≤ length s.log
    → get_or (puts (before ++ (clearing s.log ∷ [])) s).log (seal_at (puts (before ++ (clearing s.log ∷ [])) s).log) 0 ≡ 0
unfolding puts put
cleared s before l =
    let a : State = puts before s in
    let long : length a.log ≡ length s.log = puts_long before s in_log in
    rw (puts_append before (clearing s.log ∷ []) s)
    (ap (λ n. get_or (set a.log (seal_at s.log) 0) (n - entry_size) 0) (length-set a.log (seal_at s.log) 0 ∙ long)
    ∙ get_or-set_same a.log (seal_at s.log) 0 0 (omega arith))

-- an empty log leaves nothing to be done, refused or not
pub empty_rests : (s : State) → is_sealed s.log ≡ false → (recover_of s).state ≡ s
unfolding recover_call recovery_stores puts
empty_rests s e = go (verdict_of (recover_stages s.table s.order s.log))
  where
    go : (v : Verdict) → puts (recover_judged s v).stores s ≡ s
    go (Ok _) = rw e
    go (Err w) = refl

pub recover_again : (s : State) → (recover_of (recover_of s).state).state ≡ (recover_of s).state
unfolding recover_call recovery_stores recover_stages log_stages
recover_again s = go (verdict_of (recover_stages s.table s.order s.log)) refl (is_sealed s.log) refl
  where
    long : AllPass (recover_stages s.table s.order s.log) → entry_size ≤ length s.log
    long (also z (also size rest)) = (log_sizes s.log (passed_only 0 size)).some

    same : (recover_of s).state ≡ s → (recover_of (recover_of s).state).state ≡ (recover_of s).state
    same e = ap (λ (a : State). (recover_of a).state) e

    go : (v : Verdict) → verdict_of (recover_stages s.table s.order s.log) ≡ v → (b : Bool) → is_sealed s.log ≡ b
        → (recover_of (recover_of s).state).state ≡ (recover_of s).state
    go v e false q = same (empty_rests s q)
    go (Err w) e true q = same (ap (λ v. puts (recover_judged s v).stores s) e ∙ puts_none s)
    go (Ok _) e true q =
        let is : (recover_of s).state ≡ puts (putting (logged s.log) ++ (clearing s.log ∷ [])) s =
        ap (λ v. puts (recover_judged s v).stores s) e ∙ rw q in
        let empty = cleared s (putting (logged s.log)) (long (clear_only (recover_stages s.table s.order s.log) e)) in
        rw is (empty_rests _ (ap (λ b. eqb b seal_mark) empty ∙ ne_eqb 0 seal_mark (λ z. omega arith)))
