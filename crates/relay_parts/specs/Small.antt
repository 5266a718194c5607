-- A part whose numbers fit 32 bits: those that Show and the labels hand back do.
use Rattle.std.specs.Prelude.{ℕ, ◌≤◌, ◌<◌, List}
use Rattle.std.proofs.Common.{arith}
use Rattle.parts.specs.Part.{Inside}
use Rattle.parts.specs.declared.Part.{Part}
use Rattle.relay_numbers.specs.Fits.{limit}

pub record Small (p : Part) : Type 0 where
  pub begins : p.0 ≤ p.1
  pub ends : p.1 < limit

pub small : {p : Part} {l : List ℕ} {most : ℕ} → Inside p l → p.1 ≤ most → most < limit → Small p
small h e m = record { begins = h.begins; ends = omega arith }
