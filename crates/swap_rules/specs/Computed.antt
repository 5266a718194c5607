-- The swap of a table as Swap computes it is a swap in the sense of `Step`, of the records as they are seen through references.
use Prim.Native.Nat.{ℕ, zero, suc, ◌≤◌, ◌<◌}
use Rattle.std.proofs.Common.{arith, inl, inr, ap₂, ◌∙◌, subst, ltb-true}
use Rattle.std.specs.Prelude.{Bool, true, List, ◌≢◌, ◌⊎◌, ◌≡◌, refl, length}
use Rattle.std.proofs.Math.Bool.{false}
use Rattle.std.proofs.Math.Logic.{⊎_elim}
use Rattle.std.proofs.Math.Path.{ap, sym}
use Rattle.std.proofs.Math.ListN.{get_or}
use Rattle.diagrams.specs.Node.{Node, ref}
use Rattle.diagrams.specs.Edition.{Edition}
use Rattle.swap_rules.specs.Swap.{crossing}
use Rattle.swap_rules.specs.Swap.{filled, dies}

-- the four cases of a record: it crosses; it is filled; it dies; it stays as it is
pub data Case (E : Edition) (T : ℕ → Node) (N x y : ℕ) (roots : List ℕ) (i : ℕ) : Type 0 where
  crosses_now : crossing E T x y i ≡ true → Case E T N x y roots i
  filled_now : crossing E T x y i ≡ false → filled E T N x y roots i ≡ true → Case E T N x y roots i
  dies_now : crossing E T x y i ≡ false → filled E T N x y roots i ≡ false → dies E T N x y roots (ref i) ≡ true → Case E T N x y roots i
  stays_now : crossing E T x y i ≡ false → filled E T N x y roots i ≡ false → dies E T N x y roots (ref i) ≡ false → Case E T N x y roots i
