-- A bad position of an order, and that an order without one is a permutation, and back.
-- docs/RULES.md, 2.2, checks 2 and 3.
use Rattle.std.specs.Prelude.{ℕ, ◌≤◌, Bool, ◌||◌, List, ◌⊎◌, ◌≡◌, leb, length, get_or}
use Rattle.std.proofs.Common.{inl, inr, ⊎_elim, lt_of_not-le, not-le_of_lt}
use Rattle.lists.specs.First.{any, Passed}
use Rattle.lists.specs.Says.{Says, Some, says, nowhere, passes}
use Rattle.orders.specs.Permutation.{holds_at, Permutation}

-- position k is out of range or repeats an earlier one
unfoldable pub bad_place : List ℕ → ℕ → Bool
bad_place o k = leb (length o) (get_or o k 0) || any (holds_at o (get_or o k 0)) k

place_says : (o : List ℕ) (k : ℕ) → Says (bad_place o k) ((length o ≤ get_or o k 0) ⊎ Some (λ j. get_or o j 0 ≡ get_or o k 0) k)
unfolding bad_place holds_at
place_says o k = search says

pub permutation_if : (o : List ℕ) → Passed (bad_place o) (length o) → Permutation o
permutation_if o h = record {
  in_range = λ k l. lt_of_not-le (λ e. nowhere (place_says o) h k l (inl e));
  distinct = λ j k l m e. nowhere (place_says o) h k m (inr (record { index = j; below = l; holds = e }));
}

pub permutation_then : (o : List ℕ) → Permutation o → Passed (bad_place o) (length o)
permutation_then o h = passes (place_says o) (λ k l. ⊎_elim (not-le_of_lt (h.in_range k l)) (λ w. h.distinct w.index k w.below l w.holds))
