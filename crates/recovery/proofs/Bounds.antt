-- The numbers of an answer of Recover are small: no log holds more entries than it has records.
use Rattle.std.specs.Prelude.{ℕ, ◌≤◌, ◌<◌, ◌≡◌, length, Ok, Err}
use mathlib.Core.List.{[], append-nil}
use Rattle.std.proofs.Math.Path.{refl}
use native.Mathlib.Omega.{arith}
use Rattle.lists.specs.Below.{Below}
use Rattle.diagrams.specs.Layout.{records}
use Rattle.checks.specs.Stages.{number, Verdict, AllPass, also, FailsFirst, here, later, verdict_of, passed_only, clear_only, refused_only}
use Rattle.checks.specs.declared.Fault.{Fault}
use Rattle.undo.specs.Stores.{State}
use Rattle.undo.specs.Log.{most_log_records, counted}
use Rattle.check_log.specs.BadLog.{log_stages, entry_stages, log_sizes}
use Rattle.check_log.specs.Bounds.{counted_few, log_below}
use Rattle.recovery.specs.Recover.{recover_stages, recover_judged, recover_call, numbers}

module _ (s : State) (m : ℕ) (big : most_log_records ≤ m) where
  entries_below_lem : AllPass (recover_stages s.table s.order s.log) → counted s.log < m
  unfolding recover_stages log_stages entry_stages
  entries_below_lem (also z (also size (also seal rest))) =
      let sizes = log_sizes s.log (passed_only 0 size) in
      omega (arith, counted_few s.log (passed_only _ seal), sizes.some, sizes.few)

  refusal_small : (j : Fault) (x : ℕ) → FailsFirst (recover_stages s.table s.order s.log) j x → (number j < m) × (x < m)
  unfolding recover_stages
  refusal_small _ x (here l d p) = (omega arith, omega arith)
  refusal_small j x (later h f) =
      log_below s.log (records s.table) (length s.order) m [] big j x none
      (rw (← append-nil (log_stages s.log (records s.table) (length s.order))) at f)
    where
      none : (j : Fault) (y : ℕ) → FailsFirst [] j y → (number j < m) × (y < m)
      none j y = elim [ ]

  judged_below : (v : Verdict) → verdict_of (recover_stages s.table s.order s.log) ≡ v → Below m (numbers (recover_judged s v).answer)
  judged_below (Ok _) e = (omega arith, (entries_below_lem (clear_only _ e), tt))
  judged_below (Err f) e =
      let w = refusal_small f.fault f.place (refused_only (recover_stages s.table s.order s.log) f.fault f.place e) in
      (w.0, (w.1, tt))

  pub recover_numbers_small : Below m (numbers (recover_call s).answer)
  unfolding recover_call
  recover_numbers_small = judged_below (verdict_of (recover_stages s.table s.order s.log)) refl
