-- Any list of swaps and slices, one after the other: what is told of alike tables alike is the same before them and after them.
use Rattle.std.specs.Prelude.{ℕ, List, [], ◌∷◌, ◌≡◌, refl}
use Rattle.std.proofs.Common.{◌∙◌}
use Rattle.undo.specs.Stores.{State}
use Rattle.swaps.specs.Outcome.{swap_of}
use Rattle.runs.specs.OneSwap.{plain_swap}
use Rattle.runs.specs.Run.{run_of}
use Rattle.demands.specs.Moved.{Alike, MovedTo, moved_same, swap_moved, run_moved}

-- a swap of any level, or a slice towards any target, by the plan with any number and with any budget
pub data Operation : Type 0 where
  swap : (level : ℕ) → Operation
  slice : (target : List ℕ) (plan budget : ℕ) → Operation

-- what an operation leaves in table, order and log, made or refused or without room
abbrev pub leaves : List ℕ → Operation → State → State
leaves r (swap level) s = (swap_of s r level).state
leaves r (slice target plan budget) s = (run_of plain_swap plan s r target budget).state

-- and what a list of them leaves
abbrev pub leaves_all : List ℕ → List Operation → State → State
leaves_all r [] s = s
leaves_all r (x ∷ rest) s = leaves_all r rest (leaves r x s)

leaves_moved : (r : List ℕ) (x : Operation) (s : State) → MovedTo r s (leaves r x s)
leaves_moved r (swap level) s = swap_moved s r level
leaves_moved r (slice target plan budget) s = run_moved plan s r target budget

module _ {A : Type 0} (r : List ℕ) (tell : List ℕ → List ℕ → A)
    (same : (t o t' o' : List ℕ) → Alike r t o t' o' → tell t' o' ≡ tell t o) where
  pub operations_same : (list : List Operation) (s : State) → tell (leaves_all r list s).table (leaves_all r list s).order ≡ tell s.table s.order
  operations_same [] s = refl
  operations_same (x ∷ rest) s = operations_same rest (leaves r x s) ∙ moved_same tell (same _ _ _ _) (leaves_moved r x s)
