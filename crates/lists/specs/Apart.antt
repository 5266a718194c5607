-- Two different variants are never equal. `cc` finds 0 ≡ 1 wherever an equation at hand says that they are, so that `apart (cc)` closes the case.
use Rattle.std.specs.Prelude.{ℕ, ◌≡◌}
use Rattle.std.proofs.Common.{arith}

pub apart : {X : Type 0} → ◌≡◌ {A = ℕ} 0 1 → X
apart z = absurd (omega arith)
