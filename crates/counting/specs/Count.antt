-- Count: under how many of the 2 ^ n combinations of inputs a root is 1, and their share of all, or the refusal of the first check that fails: those of
-- Check, then 16 and 10.
-- docs/RULES.md, 2.2 and 3.
use Rattle.std.specs.Prelude.{ℕ, Bool, List, [], ◌∷◌, ◌++◌, ◌≡◌, ltb, length, Float, Result, Ok, Err}
use Rattle.lists.specs.Combinations.{how_many}
use Rattle.count_shares.specs.Share.{most_counted, share}
use Rattle.count_levels.specs.declared.Trips.{Trips}
use Rattle.checks.specs.Stages.{number, Verdict, Stage, stage_at, verdict_of}
use Rattle.checks.specs.Check.{check_stages}
use Rattle.checks.specs.declared.Refusal.{Refusal}
use Rattle.checks.specs.declared.Fault.TheVariants.{TooManyInputs, NoRoot}
use Rattle.reading.specs.Read.{no_root, root_value}

-- ---- 16: more inputs than are counted; the place is n
abbrev pub too_many_inputs : List ℕ → Bool
too_many_inputs o = ltb most_counted (length o)

unfoldable pub count_stages : List ℕ → List ℕ → List ℕ → ℕ → List Stage
count_stages t r o position =
    check_stages t r o ++ (stage_at TooManyInputs (length o) (too_many_inputs o) ∷ stage_at NoRoot position (no_root r position) ∷ [])

-- under how many combinations of n inputs the value of the root, as Read computes it, is 1
unfoldable pub trips : List ℕ → List ℕ → List ℕ → ℕ → ℕ
trips t r o position = how_many (length o) (root_value t r o position)

-- what Count answers: how many combinations and their share, or a refusal
abbrev pub CountAnswer : Type 0
CountAnswer = Result Trips Refusal

abbrev pub counted : ℕ → Float → CountAnswer
counted c s = Ok (record { count = c; share = s })

-- what is answered after the checks
abbrev pub count_after : List ℕ → List ℕ → List ℕ → ℕ → Verdict → CountAnswer
count_after t r o position (Ok _) = counted (trips t r o position) (share (trips t r o position) (length o))
count_after t r o position (Err w) = Err w

unfoldable pub count_of : List ℕ → List ℕ → List ℕ → ℕ → CountAnswer
count_of t r o position = count_after t r o position (verdict_of (count_stages t r o position))

-- what Count may answer
abbrev pub CountOutcome : List ℕ → List ℕ → List ℕ → ℕ → CountAnswer → Type 0
CountOutcome t r o position a = a ≡ count_of t r o position

-- the numbers of each answer: 0 stands for a count, which is told in a place of its own
abbrev pub numbers : CountAnswer → List ℕ
numbers (Ok _) = 0 ∷ []
numbers (Err w) = number w.fault ∷ w.place ∷ []
