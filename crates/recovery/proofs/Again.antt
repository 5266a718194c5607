-- Laws of what specs/Again.antt defines.
use Rattle.std.specs.Prelude.{ℕ, ◌≤◌, ◌<◌, ◌/◌, ◌≡◌, length, Ok}
use Rattle.std.proofs.Math.Bool.{false}
use mathlib.Core.List.{List, [], ◌∷◌, ◌++◌}
use Rattle.std.proofs.Math.Path.{refl, ap, sym}
use Rattle.std.proofs.Common.{ap₂, ◌∙◌, subst}
use Rattle.diagrams.specs.Layout.{record_size, records}
use Rattle.orders.specs.Exchange.{exchange}
use Rattle.check_sizes.specs.Sizes.{bad_sizes}
use Rattle.checks.specs.Stages.{clear, verdict_of, place_passes}
use Rattle.checks.specs.declared.Fault.TheVariants.{BadSizes}
use Rattle.undo.specs.Stores.{in_table, in_order, in_log, State, puts}
use Rattle.undo.specs.Calls.{Call, cut}
use Rattle.undo.specs.Log.{counted, swap_stores, swap_cut, recovery_stores, recovery_cut, recovered}
use Rattle.undo.specs.Survives.{Ready, Quiet, recoveries}
use Rattle.undo.proofs.Survives.{recoveries_quiet, quiet_whole, before_the_swap, after_the_swap}
use Rattle.check_log.specs.BadLog.{bad_log_size, log_stages}
use Rattle.check_log.specs.Accepted.{same_size, cut_long, recoveries_long, never_refused, quiet_accepted}
use Rattle.recovery.specs.Recover.{RecoverAnswer, recover_stages, recover_judged, recover_call, recover_of}
use Rattle.recovery.specs.Again.{Accepting, recovers}

one_more : (fs : List ℕ) (f : ℕ) (a : State) → recoveries (fs ++ (f ∷ [])) a ≡ recovery_cut f (recoveries fs a)
unfolding recoveries
one_more [] f a = refl
one_more (g ∷ fs) f a = one_more fs f (recovery_cut g a)

module _ (a : State) (accepts : Accepting a) where
  call_is : (fs : List ℕ)
      → recover_call (recoveries fs a) ≡ record { answer = Ok (counted (recoveries fs a).log); stores = recovery_stores (recoveries fs a).log }
  unfolding recover_call
  call_is fs = ap (recover_judged (recoveries fs a)) (accepts fs)

  go_on : (fs gs : List ℕ) → recovers fs (recoveries gs a) ≡ recoveries fs (recoveries gs a)
  unfolding recovers recoveries
  go_on [] gs = refl
  go_on (f ∷ fs) gs =
      ap (λ (c : Call RecoverAnswer). recovers fs (cut f c (recoveries gs a))) (call_is gs)
      ∙ ap (recovers fs) (sym (one_more gs f a))
      ∙ go_on fs (gs ++ (f ∷ []))
      ∙ ap (recoveries fs) (one_more gs f a)

  pub recovers_is : (fs : List ℕ) → recovers fs a ≡ recoveries fs a
  unfolding recoveries
  recovers_is fs = go_on fs []

  -- the whole one after them
  pub recover_answers : (fs : List ℕ) → (recover_of (recovers fs a)).answer ≡ Ok (counted (recovers fs a).log)
  recover_answers fs =
      subst (λ (b : State). (recover_of b).answer ≡ Ok (counted b.log)) (sym (recovers_is fs)) (ap (λ (c : Call RecoverAnswer). c.answer) (call_is fs))

  pub recover_restores : (fs : List ℕ) → (recover_of (recovers fs a)).state ≡ recovered (recoveries fs a)
  recover_restores fs =
      ap (λ (b : State). (recover_of b).state) (recovers_is fs) ∙ ap (λ (c : Call RecoverAnswer). puts c.stores (recoveries fs a)) (call_is fs)

-- ---- the sizes stay

same_sizes : (t o u p : List ℕ) → length t ≡ length u → length o ≡ length p → bad_sizes t [] o ≡ bad_sizes u [] p
unfolding bad_sizes
same_sizes t o u p e h = rw (e, h)

module _ (s : State) (sizes : bad_sizes s.table [] s.order ≡ false) where
  passes : (b : State) → length b.table ≡ length s.table → length b.order ≡ length s.order
      → verdict_of (log_stages b.log (records s.table) (length s.order)) ≡ clear
      → verdict_of (recover_stages b.table b.order b.log) ≡ clear
  unfolding recover_stages
  passes b t o e =
      sym (place_passes BadSizes 0 (bad_sizes b.table [] b.order) _
      (sym (same_sizes b.table b.order s.table s.order t o ∙ sizes)) refl refl
      (sym (ap₂ (λ (m n : ℕ). verdict_of (log_stages b.log (m / record_size) n)) t o ∙ e)))

  -- buffers whose log is empty
  module _ (quiet : Quiet s.table s.order s) (size : bad_log_size s.log ≡ false) where
    pub quiet_accepts : Accepting s
    quiet_accepts fs =
        let q : Quiet s.table s.order (recoveries fs s) = recoveries_quiet fs s.table s.order s quiet in
        passes (recoveries fs s) (ap length q.table_is) (ap length q.order_is)
        (quiet_accepted s.table s.order (records s.table) (length s.order) (recoveries fs s) q
        (same_size _ s.log (recoveries_long in_log fs s) size))

    pub quiet_stays : (fs : List ℕ) → Quiet s.table s.order (recover_of (recovers fs s)).state
    quiet_stays fs =
        subst (Quiet s.table s.order) (sym (recover_restores s quiet_accepts fs))
        (quiet_whole s.table s.order _ (recoveries_quiet fs s.table s.order s quiet))

  -- a swap that is cut
  module _ (u : List ℕ) (k : ℕ) (ready : Ready s u k) (size : bad_log_size s.log ≡ false) (f : ℕ) where
    pub cut_accepts : Accepting (swap_cut f s u k)
    cut_accepts fs = passes _ (cut_long in_table f fs s u k) (cut_long in_order f fs s u k) (never_refused s u k ready size f fs)

    pub cut_before : (fs : List ℕ) → f < length (swap_stores s u k) → Quiet s.table s.order (recover_of (recovers fs (swap_cut f s u k))).state
    cut_before fs l =
        subst (Quiet s.table s.order) (sym (recover_restores (swap_cut f s u k) cut_accepts fs)) (before_the_swap s u k ready f fs l)

    pub cut_after : (fs : List ℕ) → length (swap_stores s u k) ≤ f → Quiet u (exchange s.order k) (recover_of (recovers fs (swap_cut f s u k))).state
    cut_after fs l =
        subst (Quiet u (exchange s.order k)) (sym (recover_restores (swap_cut f s u k) cut_accepts fs)) (after_the_swap s u k ready f fs l)
