-- The numbers of refusals 14 and 15 are small: no log has more records than its limit, and no seal that passes counts more entries.
use Rattle.std.specs.Prelude.{ℕ, ◌≤◌, ◌<◌, Bool, true, false, cond, List, ◌∷◌, ◌++◌, ◌≡◌, refl}
use native.Mathlib.Omega.{arith}
use Rattle.checks.specs.Stages.{number, Stage, stage_at, FailsFirst, here, later, passed_only}
use Rattle.checks.specs.declared.Fault.{Fault}
use Rattle.checks.specs.declared.Fault.TheVariants.{SealedLog}
use Rattle.undo.specs.Log.{most_log_records, is_sealed, seal_count, entries_held, counted}
use Rattle.check_log.specs.BadLog.{bad_seal, entry_stages, log_stages, open_stages, log_sizes, seal_few}

pub counted_few : (log : List ℕ) → bad_seal log ≡ false → counted log ≤ entries_held log
counted_few log e = go (is_sealed log) refl
  where
    go : (b : Bool) → is_sealed log ≡ b → cond b (seal_count log) 0 ≤ entries_held log
    go true s = seal_few log s e
    go false s = omega arith

-- number and place are below m, where those of later checks are
module _ (log : List ℕ) (N n m : ℕ) (more : List Stage) (big : most_log_records ≤ m) where
  pub log_below : (j : Fault) (x : ℕ) → ((j : Fault) (y : ℕ) → FailsFirst more j y → (number j < m) × (y < m))
      → FailsFirst (log_stages log N n ++ more) j x → (number j < m) × (x < m)
  unfolding log_stages entry_stages
  log_below _ x rest (here l d p) = (omega arith, omega arith)
  log_below _ x rest (later size (here l d p)) =
      (omega arith, omega (arith, (log_sizes log (passed_only 0 size)).few, (log_sizes log (passed_only 0 size)).some))
  log_below _ x rest (later size (later seal (here l d p))) =
      (omega arith, omega (arith, counted_few log (passed_only _ seal), (log_sizes log (passed_only 0 size)).few))
  log_below j x rest (later size (later seal (later entries f))) = rest j x f

pub open_below : (log : List ℕ) (N n m : ℕ) (more : List Stage) → most_log_records ≤ m → (j : Fault) (x : ℕ)
    → ((j : Fault) (y : ℕ) → FailsFirst more j y → (number j < m) × (y < m)) → FailsFirst (open_stages log N n ++ more) j x → (number j < m) × (x < m)
unfolding open_stages log_stages entry_stages
open_below log N n m more big j x rest f = log_below log N n m (stage_at SealedLog 0 (is_sealed log) ∷ more) big j x by_seal f
  where
    by_seal : (j : Fault) (y : ℕ) → FailsFirst (stage_at SealedLog 0 (is_sealed log) ∷ more) j y → (number j < m) × (y < m)
    by_seal _ y (here l d p) = (omega arith, omega arith)
    by_seal j y (later h g) = rest j y g
