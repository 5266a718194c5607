-- A log that a swap can be made with: it has a right length, and it is empty. It is what passes checks 14 and 15.
use Rattle.std.specs.Prelude.{ℕ, ◌≡◌, get_or}
use Rattle.std.proofs.Math.Bool.{false}
use mathlib.Core.List.{List}
use Rattle.undo.specs.Log.{seal_at}
use Rattle.check_log.specs.BadLog.{bad_log_size}

pub record Open (log : List ℕ) : Type 0 where
  pub sized : bad_log_size log ≡ false
  pub empty : get_or log (seal_at log) 0 ≡ 0
