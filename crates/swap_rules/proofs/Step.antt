-- Laws of what specs/Step.antt defines.
use Rattle.std.specs.Prelude.{ℕ, ◌+◌, ◌<◌, Bool, ◌≢◌, ◌⊎◌, ◌≡◌, refl, eqb}
use Rattle.std.proofs.Math.Bool.{true, false}
use Rattle.std.proofs.Common.{inl, inr, sym, ◌∙◌}
use borrow.Author.Tests.{eq-eqb}
use Rattle.lists.specs.Truth.{by, and_left, and_right, or_cases, or_neither}
use Rattle.diagrams.specs.Node.{Node, node, pick}
use Rattle.diagrams.specs.Diagram.{Diagram}
use Rattle.swap_rules.specs.Record.{low_of, high_of, is_of, UsedOf, of_true}
use Rattle.swap_rules.specs.Swap.{grandchild, crosses}

-- ---- the grandchildren

module _ (L : ℕ → Node) (y : ℕ) where
  pub grand_of : (r : ℕ) (u : UsedOf y (L r)) (d : Bool) → grandchild L y d r ≡ pick d u.low u.high
  unfolding grandchild is_of low_of high_of
  grand_of r u d = rw (u.is, eq-eqb y y refl)

  pub grand_self : (r : ℕ) (d : Bool) → is_of y (L r) ≡ false → grandchild L y d r ≡ r
  unfolding grandchild
  grand_self r d e = rw e

  pub pick_grand : (c d : Bool) (l h : ℕ) → pick c (grandchild L y d l) (grandchild L y d h) ≡ grandchild L y d (pick c l h)
  pick_grand true d l h = refl
  pick_grand false d l h = refl

module _ {Terminal : ℕ → Type 0} {L : ℕ → Node} {Root : ℕ → Type 0} {index : ℕ → ℕ} {n : ℕ} (D : Diagram Terminal L Root index n) (y : ℕ) where
  -- a y record has two different grandchildren
  pub grand_differ : (r : ℕ) → UsedOf y (L r) → grandchild L y false r ≢ grandchild L y true r
  grand_differ r u e = D.unequal r u.is (sym (grand_of L y r u false) ∙ e ∙ grand_of L y r u true)

  -- two references with the same grandchildren are one
  pub grand_one : (r s : ℕ) → ((d : Bool) → grandchild L y d r ≡ grandchild L y d s) → r ≡ s
  grand_one r s g = go (by (is_of y (L r))) (by (is_of y (L s)))
    where
      mixed : (p q : ℕ) → ((d : Bool) → grandchild L y d p ≡ grandchild L y d q) → is_of y (L p) ≡ true → is_of y (L q) ≡ false → ⊥
      mixed p q g t f = grand_differ p (of_true y (L p) t) (g false ∙ grand_self L y q false f ∙ sym (grand_self L y q true f) ∙ sym (g true))

      go : (is_of y (L r) ≡ true) ⊎ (is_of y (L r) ≡ false) → (is_of y (L s) ≡ true) ⊎ (is_of y (L s) ≡ false) → r ≡ s
      go (inl t) (inl t') =
          let u : UsedOf y (L r) = of_true y (L r) t in
          let w : UsedOf y (L s) = of_true y (L s) t' in
          let p : u.low ≡ w.low = sym (grand_of L y r u false) ∙ g false ∙ grand_of L y s w false in
          let q : u.high ≡ w.high = sym (grand_of L y r u true) ∙ g true ∙ grand_of L y s w true in
          D.single r s u.is (rw (← p, ← q) at w.is)
      go (inl t) (inr f) = absurd (mixed r s g t f)
      go (inr f) (inl t) = absurd (mixed s r (λ d. sym (g d)) t f)
      go (inr f) (inr f') = sym (grand_self L y r true f) ∙ g true ∙ grand_self L y s true f'

-- ---- crossing

module _ (L : ℕ → Node) (x y : ℕ) where
  pub crosses_x : (r : ℕ) → crosses L x y r ≡ true → UsedOf x (L r)
  unfolding crosses
  crosses_x r t = of_true x (L r) (and_left _ _ t)

  -- a child of a crossing record is a y record
  pub crosses_child : (r l h : ℕ) → L r ≡ node x l h → crosses L x y r ≡ true → (c : Bool) × UsedOf y (L (pick c l h))
  unfolding crosses is_of low_of high_of
  crosses_child r l h e t = go (or_cases _ _ (and_right (eqb x x) _ (rw e at t)))
    where
      go : (is_of y (L l) ≡ true) ⊎ (is_of y (L h) ≡ true) → (c : Bool) × UsedOf y (L (pick c l h))
      go (inl p) = (false, of_true y (L l) p)
      go (inr p) = (true, of_true y (L h) p)

  -- no child of an x record that stays is one
  pub stays_child : (r l h : ℕ) → L r ≡ node x l h → crosses L x y r ≡ false → (c : Bool) → is_of y (L (pick c l h)) ≡ false
  unfolding crosses is_of low_of high_of
  stays_child r l h e t = go (or_neither _ _ (rw (e, eq-eqb x x refl) at t))
    where
      go : (is_of y (L l) ≡ false) × (is_of y (L h) ≡ false) → (c : Bool) → is_of y (L (pick c l h)) ≡ false
      go p true = p.1
      go p false = p.0
