-- What Run answers and leaves, over the bytes, by the plan with any number: one outcome for each input; when it refuses; the table can be used again and every
-- root keeps its value; the orders are the plan's; what each answer says.
use Prim.Native.Nat.{ℕ}
use Rattle.std.specs.Prelude.{List, ◌≡◌}
use Rattle.std.proofs.Math.Bool.{false}
use Rattle.std.proofs.Math.ListN.{length}
use Rattle.orders.specs.Permutation.{Permutation}
use Rattle.plans.specs.Numbered.{no_plan}
use Rattle.undo.specs.Stores.{State}
use Rattle.check_log.specs.Open.{Open}
use Rattle.runs.specs.OneSwap.{OneSwap}

-- a table that the relay can use, a permutation of its variables as the target, and an empty log
pub record Runnable (W : OneSwap) (s : State) (r g : List ℕ) : Type 0 where
  pub usable : W.Usable s.table r s.order
  pub target : Permutation g
  pub long : length g ≡ length s.order
  pub log_open : Open s.log

-- and a number that a plan has
pub record Startable (W : OneSwap) (number : ℕ) (s : State) (r g : List ℕ) : Type 0 where
  pub ready : Runnable W s r g
  pub plan : no_plan number ≡ false

-- ---- the state that a slice drives obeys the laws of a relay

-- a table that the relay can use, of n variables, and an empty log
pub record Good (W : OneSwap) (r : List ℕ) (n : ℕ) (s : State) : Type 0 where
  pub usable : W.Usable s.table r s.order
  pub long : length s.order ≡ n
  pub log_open : Open s.log
