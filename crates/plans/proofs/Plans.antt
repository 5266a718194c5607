-- Laws of what specs/Plans.antt defines.
use Rattle.std.specs.Prelude.{ℕ, false, not, List, ◌≡◌, length, get_or}
use Rattle.std.proofs.Common.{ap, arith, ext_get_or}
use Rattle.lists.specs.First.{any}
use Rattle.lists.specs.Says.{Says, Some, says, says_eqb, refutes, stable}
use Rattle.orders.specs.Permutation.{Permutation}
use Rattle.plans.specs.Inversions.{left, left_exchange}
use Rattle.plans.specs.Plans.{Lawful, Plan, differs_at, same?}

pub differs_says : (o g : List ℕ) (k : ℕ) → Says (differs_at o g k) (get_or o k 0 ≡ get_or g k 0 → ⊥)
unfolding differs_at
differs_says o g k = search says

pub level_same : (o g : List ℕ) (k : ℕ) → differs_at o g k ≡ false → get_or o k 0 ≡ get_or g k 0
level_same o g k e = stable (says_eqb (get_or o k 0) (get_or g k 0)) (refutes (differs_says o g k) e)

pub same_says : (o g : List ℕ) → length o ≡ length g → Says (same? o g) (o ≡ g)
unfolding same?
same_says o g e = record {
  yes = λ t. ext_get_or 0 o g e (λ i l. stable (says_eqb (get_or o i 0) (get_or g i 0)) (λ d. nowhere.yes t (record { index = i; below = l; holds = d })));
  no = λ q. nowhere.no (λ w. w.holds (ap (λ (x : List ℕ). get_or x w.index 0) q));
}
  where
    nowhere : Says (not (any (differs_at o g) (length o))) (Some (λ k. get_or o k 0 ≡ get_or g k 0 → ⊥) (length o) → ⊥)
    nowhere = search (says, differs_says)

-- with a plan at hand, order and target are equal where no inversion is left
pub left_zero : {plan : Plan} → Lawful plan → (o g : List ℕ) → Permutation o → Permutation g → length o ≡ length g → left o g ≡ 0 → o ≡ g
left_zero {plan} w o g h i e z =
    stable (same_says o g e) (λ d. omega (arith, left_exchange o g (plan o g) h (w.names_inversion o g h i e d)))
