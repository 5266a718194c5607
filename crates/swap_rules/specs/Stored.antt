-- A stored table and a stored order: what one swap makes of each record, and of each level.
use Prim.Native.Nat.{ℕ, zero, suc, ◌+◌, ◌≤◌, ◌<◌}
use Rattle.std.proofs.Common.{arith, ap, sym, ◌∙◌, leb-true}
use Rattle.std.specs.Prelude.{true, false, List, ◌≢◌, ◌≡◌, length, get_or}
use Rattle.std.proofs.Math.Path.{refl, fun_ext}
use Rattle.std.proofs.Math.ListN.{get_or-eq_default}
use Rattle.diagrams.specs.Node.{Node, at, ref}
use Rattle.diagrams.specs.Edition.{Edition, Upright}
use Rattle.orders.specs.Permutation.{Permutation}
use Rattle.swap_rules.specs.Swap.{x_at, y_at, fits}

-- ---- the table afterwards, record by record

-- what an edition asks of a table's records: a record's own reference is not inverted, and no high reference is
pub record Written (E : Edition) (t : List Node) : Type 0 where
  pub own : (i : ℕ) → i < length t → E.inverted (ref i) ≡ false
  pub upright : Upright E (at t)

-- the swap of the levels k and k + 1 of the order fits in the table t
pub record SwapFits (E : Edition) (t : List Node) (roots ord : List ℕ) (k : ℕ) : Type 0 where
  pub written : Written E t
  pub order : Permutation ord
  pub level : k + 1 < length ord
  pub fit : fits E (at t) (length t) (x_at ord k) (y_at ord k) roots ≡ true
