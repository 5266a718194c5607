-- An edition of the table: which numbers are references, and what they mean. There may be an edition in which a reference means the
-- opposite of another: one record then serves a function and its opposite. In the plain edition no reference does.
use Prim.Native.Nat.{ℕ, zero, suc, ◌<◌}
use Rattle.std.proofs.Common.{arith, inl, inr, ap, sym, ◌∙◌}
use Rattle.std.specs.Prelude.{Bool, true, false, not, List, ◌⊎◌, ◌≡◌, eqb, length, get_or}
use Rattle.std.proofs.Math.Path.{refl}
use Rattle.std.proofs.lemmas.Bool.{not-false}
use Rattle.lists.specs.Says.{Some, true_false}
use Rattle.diagrams.specs.Node.{Node, free, node, pick, Constant, look}

-- The laws of opposites are asked for only where there is an inverted reference b at all.
pub record Edition : Type 1 where
  -- the constants
  pub Terminal : ℕ → Type 0
  -- r means the opposite of another reference, and which reference is the opposite of r
  pub inverted : ℕ → Bool
  pub opposite : ℕ → ℕ
  -- the opposite of the opposite is the reference itself, and one of the two is inverted
  pub twice : (b r : ℕ) → inverted b ≡ true → opposite (opposite r) ≡ r
  pub other : (b r : ℕ) → inverted b ≡ true → inverted (opposite r) ≡ not (inverted r)
  -- the opposite of a constant is one; a constant that is not inverted is below 2, where the references of records begin
  pub terminal_opposite : (b r : ℕ) → inverted b ≡ true → Terminal r → Terminal (opposite r)
  pub terminal_small : (r : ℕ) → inverted r ≡ false → Terminal r → r < 2

-- 0 is false and 1 is true; no reference is inverted
abbrev pub plain : Edition
plain = record {
  Terminal = Constant;
  inverted = λ r. false;
  opposite = λ r. r;
  twice = λ b r e. refl;
  other = λ b r e. true_false (sym e);
  terminal_opposite = λ b r e t. t;
  terminal_small = λ r e t. t;
}

-- ---- the words of an edition

module _ (E : Edition) where
  -- r (false), or its opposite (true)
  abbrev pub invert : Bool → ℕ → ℕ
  invert false r = r
  invert true r = E.opposite r

  -- the reference with the inversion left aside
  abbrev pub bare : ℕ → ℕ
  bare r = invert (E.inverted r) r

  -- do two references name one record
  abbrev pub one_record : ℕ → ℕ → Bool
  one_record q r = eqb (bare q) (bare r)

  -- a record (false), or the record of its opposite (true)
  abbrev pub turned : Bool → Node → Node
  turned false m = m
  turned true free = free
  turned true (node v l h) = node v (E.opposite l) (E.opposite h)

  -- the record that a reference names, as it is seen through the reference; free for a constant
  abbrev pub seen : (ℕ → Node) → ℕ → Node
  seen T r = turned (E.inverted r) (look T (bare r))

  -- a root is r, or its opposite
  abbrev pub Rooted : List ℕ → ℕ → Type 0
  Rooted roots r = Some (λ k. bare (get_or roots k 0) ≡ bare r) (length roots)

  -- no high reference is inverted
  abbrev pub Upright : (ℕ → Node) → Type 0
  Upright T = (i v l h : ℕ) → T i ≡ node v l h → E.inverted h ≡ false

-- ---- opposites, where there is an inverted reference b

module _ (E : Edition) (b : ℕ) (g : E.inverted b ≡ true) where
  pub turned_twice : (m : Node) → turned E true (turned E true m) ≡ m
  turned_twice free = refl
  turned_twice (node v l h) = rw (E.twice b l g, E.twice b h g)

  pub invert_not : (s : Bool) (r : ℕ) → invert E (not s) r ≡ E.opposite (invert E s r)
  invert_not true r = sym (E.twice b r g)
  invert_not false r = refl

  invert_opposite : (s : Bool) (r : ℕ) → invert E (not s) (E.opposite r) ≡ invert E s r
  invert_opposite true r = refl
  invert_opposite false r = E.twice b r g

  turned_not : (s : Bool) (m : Node) → turned E (not s) m ≡ turned E true (turned E s m)
  turned_not true m = sym (turned_twice m)
  turned_not false m = refl

  pub turned_opposite : (s : Bool) (m : Node) → turned E (not s) (turned E true m) ≡ turned E s m
  turned_opposite true m = refl
  turned_opposite false m = turned_twice m

  pub bare_opposite : (r : ℕ) → bare E (E.opposite r) ≡ bare E r
  bare_opposite r = rw (E.other b r g) (invert_opposite (E.inverted r) r)

  pub seen_opposite : (T : ℕ → Node) (r : ℕ) → seen E T (E.opposite r) ≡ turned E true (seen E T r)
  seen_opposite T r =
      ap (λ (q : ℕ). turned E (E.inverted (E.opposite r)) (look T q)) (bare_opposite r)
      ∙ rw (E.other b r g) (turned_not (E.inverted r) (look T (bare E r)))

  pub opposite_one : (p q : ℕ) → E.opposite p ≡ E.opposite q → p ≡ q
  opposite_one p q e = sym (E.twice b p g) ∙ ap E.opposite e ∙ E.twice b q g

-- ---- the inversion of a reference b, whatever it is

module _ (E : Edition) where
  pub bare_upright : (r : ℕ) → E.inverted (bare E r) ≡ false
  bare_upright r = go (E.inverted r) refl
    where
      go : (s : Bool) → E.inverted r ≡ s → E.inverted (invert E s r) ≡ false
      go true e = E.other r r e ∙ rw e
      go false e = e

  pub invert_twice : (b r : ℕ) → invert E (E.inverted b) (invert E (E.inverted b) r) ≡ r
  invert_twice b r = go (E.inverted b) refl
    where
      go : (s : Bool) → E.inverted b ≡ s → invert E s (invert E s r) ≡ r
      go true e = E.twice b r e
      go false e = refl

  pub invert_bare : (r : ℕ) → invert E (E.inverted r) (bare E r) ≡ r
  invert_bare r = invert_twice r r

  pub turned_back : (b : ℕ) (m : Node) → turned E (E.inverted b) (turned E (E.inverted b) m) ≡ m
  turned_back b m = go (E.inverted b) refl
    where
      go : (s : Bool) → E.inverted b ≡ s → turned E s (turned E s m) ≡ m
      go true e = turned_twice E b e m
      go false e = refl

  pub seen_invert : (T : ℕ → Node) (b r : ℕ) → seen E T (invert E (E.inverted b) r) ≡ turned E (E.inverted b) (seen E T r)
  seen_invert T b r = go (E.inverted b) refl
    where
      go : (s : Bool) → E.inverted b ≡ s → seen E T (invert E s r) ≡ turned E s (seen E T r)
      go true e = seen_opposite E b e T r
      go false e = refl

  pub seen_upright : (T : ℕ → Node) (r : ℕ) → E.inverted r ≡ false → seen E T r ≡ look T r
  seen_upright T r e = ap (λ (s : Bool). turned E s (look T (invert E s r))) e

  pub bare_invert : (b r : ℕ) → bare E (invert E (E.inverted b) r) ≡ bare E r
  bare_invert b r = go (E.inverted b) refl
    where
      go : (s : Bool) → E.inverted b ≡ s → bare E (invert E s r) ≡ bare E r
      go true e = bare_opposite E b e r
      go false e = refl

  pub turned_node : (s : Bool) (v l h : ℕ) → turned E s (node v l h) ≡ node v (invert E s l) (invert E s h)
  turned_node true v l h = refl
  turned_node false v l h = refl

  pub pick_invert : (s c : Bool) (l h : ℕ) → pick c (invert E s l) (invert E s h) ≡ invert E s (pick c l h)
  pick_invert s true l h = refl
  pick_invert s false l h = refl

  -- two references to one record are one, or opposites
  pub bare_one : (p r : ℕ) → bare E p ≡ bare E r → (p ≡ r) ⊎ ((b : ℕ) × (E.inverted b ≡ true) × (E.opposite p ≡ r))
  bare_one p r e = go (E.inverted p) refl (E.inverted r) refl e
    where
      go : (s : Bool) → E.inverted p ≡ s → (u : Bool) → E.inverted r ≡ u → invert E s p ≡ invert E u r
          → (p ≡ r) ⊎ ((b : ℕ) × (E.inverted b ≡ true) × (E.opposite p ≡ r))
      go true a true b z = inl (opposite_one E p a p r z)
      go true a false b z = inr (p, a, z)
      go false a true b z = inr (r, b, ap E.opposite z ∙ E.twice r r b)
      go false a false b z = inl z

  -- r is inverted as b is, where b seen through r is not
  pub as_inverted : (r b : ℕ) → E.inverted (invert E (E.inverted r) b) ≡ false → E.inverted r ≡ E.inverted b
  as_inverted r b e = go (E.inverted r) refl e
    where
      go : (s : Bool) → E.inverted r ≡ s → E.inverted (invert E s b) ≡ false → s ≡ E.inverted b
      go true g z = sym (not-false (E.inverted b) (sym (E.other r b g) ∙ z))
      go false g z = sym z

  -- the constants name no record
  pub seen_terminal : (T : ℕ → Node) (r : ℕ) → E.Terminal r → seen E T r ≡ free
  unfolding look
  seen_terminal T r t = go (E.inverted r) refl
    where
      small : (q : ℕ) → q < 2 → look T q ≡ free
      small zero b = refl
      small (suc zero) b = refl
      small (suc (suc i)) b = absurd (omega arith)

      go : (s : Bool) → E.inverted r ≡ s → turned E s (look T (invert E s r)) ≡ free
      go true e = ap (turned E true) (small (E.opposite r) (E.terminal_small (E.opposite r) (E.other r r e ∙ rw e) (E.terminal_opposite r r e t)))
      go false e = small r (E.terminal_small r e t)
