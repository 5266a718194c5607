-- What the crossing records of a table ask for, which of it stands already, and where the new records go.
use Rattle.std.specs.Prelude.{ℕ, ◌≤◌, ◌<◌, Bool, List, [], ◌∷◌, ◌≢◌, ◌⊎◌, ◌≡◌, length, get_or}
use Rattle.std.proofs.Common.{arith, ap, ap₂, sym, ◌∙◌, subst}
use Rattle.std.proofs.Math.Bool.{true, false}
use mathlib.Core.List.Memᴰ
use Rattle.std.proofs.Math.Logic.{inl, inr, ⊎_elim}
use Rattle.std.proofs.Math.Path.{refl}
use Rattle.std.proofs.Math.Dec.{eqb}
use borrow.Author.Tests.{eqb-true, eq-eqb, ne_eqb, ltb-true, lt-ltb}
use Rattle.lists.specs.Says.{Some}
use Rattle.diagrams.specs.Node.{Node, node, ref}
use Rattle.diagrams.specs.Edition.{Edition}
use Rattle.swap_rules.specs.Swap.{crosses}
use Rattle.swap_rules.specs.Step.{Asked}

-- ---- what is asked for

-- w is asked for, and its high is not inverted
pub record AskedFor (E : Edition) (L : ℕ → Node) (x y : ℕ) (w : Node) : Type 0 where
  pub a : ℕ
  pub b : ℕ
  pub is : w ≡ node x a b
  pub up : E.inverted b ≡ false
  pub for : Asked L x y a b

-- some record of the table is w, and does not cross
abbrev pub Standing : (ℕ → Node) → (ℕ → Node) → ℕ → ℕ → ℕ → Node → Type 0
Standing T L N x y w = Some (λ j. (w ≡ T j) × (crosses L x y (ref j) ≡ true → ⊥)) N
