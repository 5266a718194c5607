-- One swap: what stays below both levels, what a crossing record asks for, and where each record afterwards comes from.
use Rattle.std.specs.Prelude.{ℕ, ◌+◌, ◌<◌, Bool, true, false, ◌≢◌, ◌⊎◌, ◌≡◌, refl}
use Rattle.std.proofs.Common.{arith, inl, inr, ⊎_elim, ap, sym, ◌∙◌}
use Rattle.diagrams.specs.Node.{Node, node, pick}
use Rattle.swap_rules.specs.Swap.{crosses}
use Rattle.swap_rules.specs.Step.{Side, Asked, Open}

-- a used record afterwards, and where it comes from
pub data Origin (L : ℕ → Node) (x y : ℕ) (X : ℕ → ℕ → ℕ) (dies : ℕ → Bool) (r v l h : ℕ) : Type 0 where
  as_kept : L r ≡ node v l h → crosses L x y r ≡ false → dies r ≡ false → Origin L x y X dies r v l h
  as_crossed : (l₀ h₀ : ℕ) → L r ≡ node x l₀ h₀ → crosses L x y r ≡ true → v ≡ y → ((c : Bool) → pick c l h ≡ Side L y X c l₀ h₀) → Origin L x y X dies r v l h
  as_fresh : Open L dies r → v ≡ x → Asked L x y l h → l ≢ h → ((q : ℕ) → L q ≡ node x l h → crosses L x y q ≡ false → ⊥) → Origin L x y X dies r v l h
