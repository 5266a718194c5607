-- What Read answers, and when.
use Rattle.std.specs.Prelude.{ℕ, ◌≤◌, ◌<◌, Bool, false, List, [], ◌∷◌, ◌⊎◌, ◌≡◌, length, get_or}
use Rattle.std.proofs.Common.{inl, inr, ⊎_elim, ◌∙◌, not-le_of_lt, leb-false}
use Rattle.std.proofs.Math.Path.{refl, ap, sym}
use native.Mathlib.Omega.{arith}
use Rattle.lists.specs.Combinations.{Combination}
use Rattle.diagrams.specs.Layout.{root_count, root_at}
use Rattle.diagrams.specs.Lookup.{lookup}
use Rattle.diagrams.specs.Value.{value, Value}
use Rattle.checks.specs.Usable.{Usable}
use Rattle.reading.specs.Read.{input_of}

-- n input bytes, each of them 0 or 1
abbrev pub GoodInputs : List ℕ → List ℕ → Type 0
GoodInputs o inputs = Combination (length o) inputs

-- ---- Read answers a value exactly for a table that the relay can use, a root that is there and good inputs: the root's value

pub record Reads (t r o : List ℕ) (position : ℕ) (inputs : List ℕ) (b : Bool) : Type 0 where
  pub usable : Usable t r o
  pub there : position < root_count r
  pub good : GoodInputs o inputs
  pub value : Value (lookup t) (input_of inputs) (root_at r position) b
