-- One swap of a stored table, in any edition: a diagram again under the exchanged order, every value kept, what dies, and how many records are used.
use Rattle.std.specs.Prelude.{ℕ, ◌+◌, ◌<◌, Bool, cond, List, ◌≡◌, length, get_or}
use Rattle.std.proofs.Math.Bool.{true, false}
use Rattle.std.proofs.Common.{inl, inr, ⊎_elim, sym, ◌∙◌, subst}
use Rattle.std.proofs.Math.Path.{refl, ap}
use Rattle.diagrams.specs.Node.{Node, node}
use Rattle.diagrams.specs.Value.{value, with_input}
use Rattle.swap_rules.specs.Swap.{f00, f01, f10, f11}
use Rattle.swap_rules.specs.Step.{kept}

-- ---- what the theorems say

-- the reference r of a crossing record: its function is kept, and its new children are its cofactors by y: low reads as r does with the
-- input y 0, high with 1. By the grandchildren: low is f00 where the input x is 0 and f10 where it is 1, high is f01 and f11
pub record Cofactors (L L' : ℕ → Node) (n x y r : ℕ) : Type 0 where
  pub low : ℕ
  pub high : ℕ
  pub is : L' r ≡ node y low high
  pub kept : (inputs : ℕ → Bool) → value L' inputs n r ≡ value L inputs n r
  pub low_cofactor : (inputs : ℕ → Bool) → value L' inputs n low ≡ value L (with_input inputs y false) n r
  pub high_cofactor : (inputs : ℕ → Bool) → value L' inputs n high ≡ value L (with_input inputs y true) n r
  pub low_is : (inputs : ℕ → Bool) → value L' inputs n low ≡ cond (inputs x) (value L inputs n (f10 L y r)) (value L inputs n (f00 L y r))
  pub high_is : (inputs : ℕ → Bool) → value L' inputs n high ≡ cond (inputs x) (value L inputs n (f11 L y r)) (value L inputs n (f01 L y r))
