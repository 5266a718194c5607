-- Laws of what specs/Open.antt defines.
use Rattle.std.specs.Prelude.{ℕ, Bool, true, cond, Err, ◌≡◌, refl, get_or}
use Rattle.std.proofs.Math.Bool.{false}
use mathlib.Core.List.{List, [], ◌∷◌, ◌++◌}
use Rattle.std.proofs.Math.Path.{ap}
use Rattle.std.proofs.Common.{sym, ◌∙◌, arith}
use Rattle.std.proofs.Math.Dec.{eqb}
use borrow.Author.Tests.{ne_eqb}
use Rattle.checks.specs.Stages.{Stage, AllPass, none, also, both_rows, rows_pass, stage_at, only_passed, passed_only, clear_if, clear_only}
use Rattle.checks.specs.Stages.{refusal, verdict_of, place_refuses, row_passes}
use Rattle.checks.specs.declared.Fault.TheVariants.{BadLog, SealedLog}
use Rattle.undo.specs.Stores.{state}
use Rattle.undo.specs.Log.{seal_at, seal_mark, is_sealed}
use Rattle.undo.specs.Survives.{Quiet}
use Rattle.check_log.specs.BadLog.{bad_log_size, log_stages, open_stages, LogSizes, log_sizes}
use Rattle.check_log.specs.Accepted.{unsealed_empty, quiet_accepted}
use Rattle.check_log.specs.Open.{Open}

pub open_sizes : {log : List ℕ} → Open log → LogSizes log
open_sizes {log} p = log_sizes log p.sized

module _ (log : List ℕ) (N n : ℕ) where
  pub open_if : AllPass (open_stages log N n) → Open log
  unfolding open_stages log_stages
  open_if p = let w = both_rows (log_stages log N n) (stage_at SealedLog 0 (is_sealed log) ∷ []) p in go w.0 w.1
    where
      go : AllPass (log_stages log N n) → AllPass (stage_at SealedLog 0 (is_sealed log) ∷ []) → Open log
      go (also size (also seal rest)) (also unsealed _) =
          record { sized = passed_only 0 size; empty = unsealed_empty log (passed_only _ seal) (passed_only 0 unsealed) }

  pub open_then : Open log → AllPass (open_stages log N n)
  unfolding open_stages
  open_then p =
      let q : Quiet [] [] (state [] [] log) = record { table_is = refl; order_is = refl; empty = p.empty } in
      let unsealed : is_sealed log ≡ false = ap (λ b. eqb b seal_mark) p.empty ∙ ne_eqb 0 seal_mark (λ z. omega arith) in
      rows_pass (log_stages log N n) (stage_at SealedLog 0 (is_sealed log) ∷ [])
      (clear_only (log_stages log N n) (quiet_accepted [] [] N n (state [] [] log) q p.sized))
      (also (only_passed 0 unsealed) none)

-- with byte 0 of the seal at 0 the checks of the log ask for its length only
pub empty_verdict : (log : List ℕ) (N n : ℕ) (more : List Stage) → get_or log (seal_at log) 0 ≡ 0
    → verdict_of (open_stages log N n ++ more) ≡ cond (bad_log_size log) (Err (refusal BadLog 0)) (verdict_of more)
unfolding open_stages log_stages
empty_verdict log N n more e = go (bad_log_size log) refl
  where
    go : (b : Bool) → bad_log_size log ≡ b → verdict_of (open_stages log N n ++ more) ≡ cond b (Err (refusal BadLog 0)) (verdict_of more)
    go true q = sym (place_refuses BadLog 0 (bad_log_size log) _ (sym q) refl refl)
    go false q = sym (row_passes (open_stages log N n) more refl (clear_if (open_stages log N n) (open_then log N n (record { sized = q; empty = e }))) refl)
