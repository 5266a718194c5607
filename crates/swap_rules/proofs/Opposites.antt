-- Inverting a reference inverts its grandchildren, and crosses as before; a pair and its opposites have one normal form.
use Rattle.std.specs.Prelude.{ℕ, Bool, cond, ◌&&◌, ◌||◌, ◌≡◌, eqb}
use Rattle.std.proofs.Math.Bool.{true, false}
use Rattle.std.proofs.Math.Path.{refl}
use Rattle.std.proofs.Common.{ap, sym, ◌∙◌}
use Rattle.diagrams.specs.Node.{Node, free, node, pick, look}
use Rattle.diagrams.specs.Edition.{Edition, invert, bare, turned, seen, turned_opposite, seen_opposite, turned_back, turned_node}
use Rattle.swap_rules.specs.Record.{low_of, high_of, is_of, Behind, behind}
use Rattle.swap_rules.specs.Swap.{grandchild, crosses, normal}
use Rattle.swap_rules.specs.Step.{Asked}

pub of_turned : (E : Edition) (s : Bool) (w : ℕ) (m : Node) → is_of w (turned E s m) ≡ is_of w m
unfolding is_of
of_turned E false w m = refl
of_turned E true w free = refl
of_turned E true w (node v l h) = refl

module _ (E : Edition) (b : ℕ) (g : E.inverted b ≡ true) (T : ℕ → Node) where
  pub grand_opposite : (y : ℕ) (d : Bool) (r : ℕ) → grandchild (seen E T) y d (E.opposite r) ≡ E.opposite (grandchild (seen E T) y d r)
  unfolding grandchild is_of low_of high_of
  grand_opposite y d r = rw (seen_opposite E b g T r) (go (seen E T r))
    where
      side : (d : Bool) (l h : ℕ) → pick d (E.opposite l) (E.opposite h) ≡ E.opposite (pick d l h)
      side true l h = refl
      side false l h = refl

      both : (u : Bool) (l h : ℕ) → cond u (pick d (E.opposite l) (E.opposite h)) (E.opposite r) ≡ E.opposite (cond u (pick d l h) r)
      both true l h = side d l h
      both false l h = refl

      go : (m : Node) → cond (is_of y (turned E true m)) (pick d (low_of (turned E true m)) (high_of (turned E true m))) (E.opposite r)
          ≡ E.opposite (cond (is_of y m) (pick d (low_of m) (high_of m)) r)
      go free = refl
      go (node v l h) = both (eqb v y) l h

  pub crosses_opposite : (x y r : ℕ) → crosses (seen E T) x y (E.opposite r) ≡ crosses (seen E T) x y r
  unfolding crosses is_of low_of high_of
  crosses_opposite x y r = rw (seen_opposite E b g T r) (go (seen E T r))
    where
      go : (m : Node) → (is_of x (turned E true m) && (is_of y (seen E T (low_of (turned E true m))) || is_of y (seen E T (high_of (turned E true m)))))
          ≡ (is_of x m && (is_of y (seen E T (low_of m)) || is_of y (seen E T (high_of m))))
      go free = refl
      go (node v l h) = rw (seen_opposite E b g T l, seen_opposite E b g T h, of_turned E true y (seen E T l), of_turned E true y (seen E T h))

  -- the opposite of what is asked for is asked for
  pub asked_opposite : {x y p q : ℕ} → Asked (seen E T) x y p q → Asked (seen E T) x y (E.opposite p) (E.opposite q)
  asked_opposite {x} {y} s = record {
    asker = E.opposite s.asker;
    low = E.opposite s.low;
    high = E.opposite s.high;
    is = seen_opposite E b g T s.asker ∙ ap (turned E true) s.is;
    cross = crosses_opposite x y s.asker ∙ s.cross;
    side = s.side;
    low_is = ap E.opposite s.low_is ∙ sym (grand_opposite y s.side s.low);
    high_is = ap E.opposite s.high_is ∙ sym (grand_opposite y s.side s.high);
  }

pub crosses_invert : (E : Edition) (T : ℕ → Node) (x y b r : ℕ) → crosses (seen E T) x y (invert E (E.inverted b) r) ≡ crosses (seen E T) x y r
crosses_invert E T x y b r = go (E.inverted b) refl
  where
    go : (s : Bool) → E.inverted b ≡ s → crosses (seen E T) x y (invert E s r) ≡ crosses (seen E T) x y r
    go true e = crosses_opposite E b e T x y r
    go false e = refl

pub normal_opposite : (E : Edition) (b : ℕ) → E.inverted b ≡ true → (v l h : ℕ) → normal E (node v (E.opposite l) (E.opposite h)) ≡ normal E (node v l h)
unfolding high_of
normal_opposite E b g v l h = rw (E.other b h g) (turned_opposite E b g (E.inverted h) (node v l h))

pub normal_node : (E : Edition) (v l h : ℕ) → normal E (node v l h) ≡ node v (invert E (E.inverted h) l) (invert E (E.inverted h) h)
unfolding high_of
normal_node E v l h = turned_node E (E.inverted h) v l h

-- the record behind a reference that names a used one
pub behind_seen : (E : Edition) (T : ℕ → Node) (r : ℕ) {v l h : ℕ} → seen E T r ≡ node v l h
    → Behind T (bare E r) (node v (invert E (E.inverted r) l) (invert E (E.inverted r) h))
behind_seen E T r {v} {l} {h} e =
    behind T (bare E r) (sym (turned_back E r (look T (bare E r))) ∙ ap (turned E (E.inverted r)) e ∙ turned_node E (E.inverted r) v l h)
