-- Read: the value of a root under inputs, or the refusal of the first check that fails: those of Check, then 10 and 11.
-- docs/RULES.md, 2.2 and 3.
use Rattle.std.specs.Prelude.{ℕ, Bool, not, ◌||◌, List, [], ◌∷◌, ◌++◌, ◌≡◌, eqb, ltb, leb, length, get_or, Result, Ok, Err}
use Rattle.lists.specs.First.{any}
use Rattle.lists.specs.Count.{bit}
use Rattle.diagrams.specs.Layout.{root_count, root_at}
use Rattle.diagrams.specs.Lookup.{lookup}
use Rattle.diagrams.specs.Value.{value}
use Rattle.checks.specs.Stages.{number, Verdict, Stage, stage_at, verdict_of}
use Rattle.checks.specs.Check.{check_stages}
use Rattle.checks.specs.declared.Refusal.{Refusal}
use Rattle.checks.specs.declared.Fault.TheVariants.{NoRoot, BadInputs}

-- byte v is the input of the variable v, 0 or 1
unfoldable pub input_of : List ℕ → ℕ → Bool
input_of inputs v = eqb (get_or inputs v 0) 1

-- ---- 10: no such root; the place is the position asked for
abbrev pub no_root : List ℕ → ℕ → Bool
no_root r position = leb (root_count r) position

-- ---- 11: input bytes not n in number, or one not 0 or 1
unfoldable pub no_input : List ℕ → ℕ → Bool
no_input inputs k = ltb 1 (get_or inputs k 0)

unfoldable pub bad_inputs : List ℕ → List ℕ → Bool
bad_inputs o inputs = not (eqb (length inputs) (length o)) || any (no_input inputs) (length inputs)

unfoldable pub read_stages : List ℕ → List ℕ → List ℕ → ℕ → List ℕ → List Stage
read_stages t r o position inputs = check_stages t r o ++ (stage_at NoRoot position (no_root r position) ∷ stage_at BadInputs 0 (bad_inputs o inputs) ∷ [])

-- the value of the root: its reading goes down at most n levels
unfoldable pub root_value : List ℕ → List ℕ → List ℕ → ℕ → List ℕ → Bool
root_value t r o position inputs = value (lookup t) (input_of inputs) (length o) (root_at r position)

-- what Read answers: the value, or a refusal
abbrev pub ReadAnswer : Type 0
ReadAnswer = Result Bool Refusal

abbrev pub read_after : Verdict → Bool → ReadAnswer
read_after (Ok _) b = Ok b
read_after (Err w) b = Err w

unfoldable pub read_of : List ℕ → List ℕ → List ℕ → ℕ → List ℕ → ReadAnswer
read_of t r o position inputs = read_after (verdict_of (read_stages t r o position inputs)) (root_value t r o position inputs)

-- what Read may answer
abbrev pub ReadOutcome : List ℕ → List ℕ → List ℕ → ℕ → List ℕ → ReadAnswer → Type 0
ReadOutcome t r o position inputs a = a ≡ read_of t r o position inputs

-- the numbers of each answer: 0 stands for a value
abbrev pub numbers : ReadAnswer → List ℕ
numbers (Ok b) = 0 ∷ bit b ∷ []
numbers (Err w) = number w.fault ∷ w.place ∷ []
