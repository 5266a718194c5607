-- The target's variable of a level k where order and target differ. On one side of k, above it or below it, all is settled: there the two agree. So the
-- order has that variable on the other side, and between there and k stand variables that the target has on that side too.
use Rattle.std.specs.Prelude.{ℕ, ◌<◌, List, ◌≡◌, length, get_or}
use Rattle.std.proofs.Common.{ap, subst, sym, ◌∙◌}
use Rattle.orders.specs.Permutation.{Permutation, level_of, level_of_at, at_level_of, level_inside, same_place}

-- a level k where the two differ, and the settled levels, where they agree
pub record Difference (o g : List ℕ) (Settled : ℕ → Type 0) (k : ℕ) : Type 0 where
  pub inside : k < length o
  pub differ : get_or o k 0 ≡ get_or g k 0 → ⊥
  pub agree : (j : ℕ) → Settled j → get_or o j 0 ≡ get_or g j 0

module _ {o g : List ℕ} (h : Permutation o) (i : Permutation g) (e : length o ≡ length g)
    {Settled : ℕ → Type 0} {k : ℕ} (w : Difference o g Settled k) where
  -- the level where the order has the target's variable of level k
  abbrev p : ℕ
  p = level_of o (get_or g k 0)

  pub p_inside : p < length o
  p_inside = level_inside o (get_or g k 0) h (rw e (i.in_range k (rw e at w.inside)))

  p_holds : get_or o p 0 ≡ get_or g k 0
  p_holds = at_level_of o (get_or g k 0) p_inside

  pub target_level : level_of g (get_or o p 0) ≡ k
  target_level = ap (level_of g) p_holds ∙ level_of_at g k i (rw e at w.inside)

  pub p_elsewhere : p ≡ k → ⊥
  p_elsewhere z = w.differ (ap (λ (x : ℕ). get_or o x 0) (sym z) ∙ p_holds)

  pub p_unsettled : Settled p → ⊥
  p_unsettled s = p_elsewhere (same_place g p k i (rw e at p_inside) (rw e at w.inside) (sym (w.agree p s) ∙ p_holds))

  -- another variable whose level isn't settled: the target has it at an unsettled level too, which is not k
  module _ (j : ℕ) (l : j < length o) (other : j ≡ p → ⊥) where
    abbrev q : ℕ
    q = level_of g (get_or o j 0)

    pub q_inside : q < length o
    q_inside = rw e (level_inside g (get_or o j 0) i (rw e at (h.in_range j l)))

    q_holds : get_or g q 0 ≡ get_or o j 0
    q_holds = at_level_of g (get_or o j 0) (rw e at q_inside)

    pub q_elsewhere : q ≡ k → ⊥
    q_elsewhere z = other (same_place o j p h l p_inside (sym q_holds ∙ ap (λ (x : ℕ). get_or g x 0) z ∙ sym p_holds))

    pub q_unsettled : (Settled j → ⊥) → Settled q → ⊥
    q_unsettled f s = f (subst Settled (same_place o q j h q_inside l (w.agree q s ∙ q_holds)) s)
