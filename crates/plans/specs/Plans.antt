-- Where an order o and its target g differ; and a plan, which says from the two which levels to swap next.
use Rattle.std.specs.Prelude.{ℕ, zero, suc, Bool, not, cond, List, Option, Some, None, ◌≡◌, eqb, length, get_or}
use Rattle.lists.specs.First.{any}
use Rattle.orders.specs.Permutation.{Permutation}
use Rattle.orders.specs.Exchange.{exchange}
use Rattle.plans.specs.Inversions.{Adjacent}

-- ---- order and target

-- they differ at level k
unfoldable pub differs_at : List ℕ → List ℕ → ℕ → Bool
differs_at o g k = not (eqb (get_or o k 0) (get_or g k 0))

-- order equals target: they differ at no level
unfoldable pub same? : List ℕ → List ℕ → Bool
same? o g = not (any (differs_at o g) (length o))

-- ---- a plan

-- from order and target to the upper one of the two levels to swap
abbrev pub Plan : Type 0
Plan = List ℕ → List ℕ → ℕ

-- the level that it names; none where order equals target
unfoldable pub next_level : Plan → List ℕ → List ℕ → Option ℕ
next_level plan o g = cond (same? o g) None (Some (plan o g))

-- where the two differ, the plan names an adjacent inverted pair
pub record Lawful (plan : Plan) : Type 0 where
  pub names_inversion : (o g : List ℕ) → Permutation o → Permutation g → length o ≡ length g → (o ≡ g → ⊥) → Adjacent o g (plan o g)

-- the order that m planned swaps reach
unfoldable pub reached : Plan → List ℕ → ℕ → List ℕ → List ℕ
reached plan g zero o = o
reached plan g (suc m) o = reached plan g m (exchange o (plan o g))
