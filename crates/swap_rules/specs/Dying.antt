-- What dies in a swap: the y records that no root names, and no record that keeps its references.
use Prim.Native.Nat.{ℕ}
use Rattle.std.specs.Prelude.{Bool, ◌&&◌, ◌||◌, List, ◌≢◌, ◌⊎◌, ◌≡◌, length, get_or}
use Rattle.std.proofs.Math.Bool.{true, false, not, or-true}
use Rattle.std.proofs.Common.{inl, inr, ⊎_elim, ◌∙◌, eqb-true, eq-eqb}
use Rattle.std.proofs.Math.Path.{refl, ap}
use Rattle.std.proofs.Math.Dec.{eqb}
use Rattle.std.proofs.lemmas.Bool.{not-true}
use Rattle.diagrams.specs.Node.{Node}
use Rattle.diagrams.specs.Diagram.{Named}
use Rattle.swap_rules.specs.Swap.{crosses}

-- a record that stays names r
abbrev pub StillNamed : (ℕ → Node) → ℕ → ℕ → ℕ → Type 0
StillNamed L x y r = (m : Named L r) × (crosses L x y m.parent ≡ false)
