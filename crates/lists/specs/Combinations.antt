-- The combinations of n inputs, and under how many of them something is true.
-- docs/RULES.md, 3.
use Rattle.std.specs.Prelude.{ℕ, zero, suc, ◌+◌, ◌^◌, ◌≤◌, ◌<◌, Bool, true, false, List, [], ◌∷◌, ◌≡◌, length, get_or, set}
use Rattle.lists.specs.Count.{bit}
use Rattle.lists.specs.Each.{each}

-- all lists of n bytes that are 0 or 1: those of n - 1, each with 0 and with 1 in front
unfoldable pub combinations : ℕ → List (List ℕ)
combinations zero = [] ∷ []
combinations (suc n) = each (λ inputs. (0 ∷ inputs) ∷ (1 ∷ inputs) ∷ []) (combinations n)

-- how many of a list pass a test
unfoldable pub passing : (List ℕ → Bool) → List (List ℕ) → ℕ
passing p [] = 0
passing p (inputs ∷ l) = bit (p inputs) + passing p l

-- under how many combinations of n inputs p is true
unfoldable pub how_many : ℕ → (List ℕ → Bool) → ℕ
how_many n p = passing p (combinations n)

-- ---- a combination of n inputs
pub record Combination (n : ℕ) (inputs : List ℕ) : Type 0 where
  pub number : length inputs ≡ n
  pub bits : (k : ℕ) → k < length inputs → get_or inputs k 0 ≤ 1

-- ---- the same under every combination: none of them, or all

abbrev pub all_or_none : Bool → ℕ → ℕ
all_or_none false n = 0
all_or_none true n = 2 ^ n

-- ---- each combination is counted once

-- p is true of these inputs and of no others
pub record Just (p : List ℕ → Bool) (inputs : List ℕ) : Type 0 where
  pub here : p inputs ≡ true
  pub nowhere_else : (others : List ℕ) → (others ≡ inputs → ⊥) → p others ≡ false

-- ---- a choice by one input: p is q where input v is 0 and r where it is 1, and neither q nor r asks for input v
pub record Choice (n v : ℕ) (p q r : List ℕ → Bool) : Type 0 where
  pub low : (inputs : List ℕ) → length inputs ≡ n → p (set inputs v 0) ≡ q (set inputs v 0)
  pub high : (inputs : List ℕ) → length inputs ≡ n → p (set inputs v 1) ≡ r (set inputs v 1)
  pub low_deaf : (inputs : List ℕ) → length inputs ≡ n → q (set inputs v 0) ≡ q (set inputs v 1)
  pub high_deaf : (inputs : List ℕ) → length inputs ≡ n → r (set inputs v 0) ≡ r (set inputs v 1)
