-- The plans Lowest Inversion and Highest Inversion: the adjacent inverted pair nearest the bottom, or nearest the top.
-- docs/RULES.md, 5.2.
use Rattle.std.specs.Prelude.{ℕ, ◌+◌, ◌-◌, Bool, List, get_or}
use Rattle.std.proofs.Math.ListN.{length}
use Rattle.lists.specs.First.{first}
use Rattle.lists.specs.Last.{last}
use Rattle.plans.specs.Inversions.{inverted}
use Rattle.plans.specs.Plans.{Plan}

-- levels k and k + 1 of o hold an inverted pair
unfoldable pub inverted_at : List ℕ → List ℕ → ℕ → Bool
inverted_at o g k = inverted o g (get_or o k 0) (get_or o (k + 1) 0)

-- nearest the bottom: the largest upper level
unfoldable pub lowest_inversion : Plan
lowest_inversion o g = last (inverted_at o g) (length o - 1)

-- nearest the top: the smallest upper level
unfoldable pub highest_inversion : Plan
highest_inversion o g = first (inverted_at o g) (length o - 1)
