-- One swap of a diagram is a diagram, under the exchanged levels.
use Rattle.std.specs.Prelude.{ℕ, ◌+◌, ◌<◌, Bool, true, false, ◌≢◌, ◌⊎◌, ◌≡◌, refl}
use Rattle.std.proofs.Common.{arith, inl, inr, ⊎_elim, ap, sym, ◌∙◌, subst}
use Rattle.lists.specs.Says.{decided, says_eqb, says_ltb}
use Rattle.lists.specs.Truth.{by, clash}
use Rattle.diagrams.specs.Node.{Node, free, node, pick}
use Rattle.diagrams.specs.Bryant.{Nonterminal, Vertex}
use Rattle.diagrams.specs.Diagram.{Named, Diagram}
use Rattle.diagrams.specs.Levels.{Ends, nonterminal, level, free_node}
use Rattle.swap_rules.specs.Record.{is_of, UsedOf, of_true, pick_node}
use Rattle.swap_rules.specs.Swap.{grandchild, crosses}
use Rattle.swap_rules.specs.Step.{Levels, Side, Asked, Kind, kept, crossed, fresh, gone, Serves, Step, OneSwap}
use Rattle.swap_rules.proofs.Step.{grand_of, grand_self, pick_grand, grand_one, crosses_x, stays_child}
use Rattle.swap_rules.specs.Stays.{Origin, as_kept, as_crossed, as_fresh}
use Rattle.swap_rules.proofs.Stays.{origin, below, x≢y, no_vertex, lasts, kept_is, x_lives, child_lives}
use Rattle.swap_rules.proofs.Stays.{Deep, deep_child, deep_lives, deep_stays, same_level, deep_level, deep_not_x}
use Rattle.swap_rules.proofs.Stays.{crossed_is, pick_side, asks, asked_deep, X-vertex, X-level, X-one, cross_unequal}

module _ {Terminal : ℕ → Type 0} {L L' : ℕ → Node} {Root : ℕ → Type 0} {index index' : ℕ → ℕ} {n k x y : ℕ} {X : ℕ → ℕ → ℕ} {dies : ℕ → Bool}
    (W : OneSwap Terminal L L' Root index index' n k x y X dies) where
  abbrev D : Diagram Terminal L Root index n
  D = W.before

  abbrev K : Levels index index' n k x y
  K = W.levels

  abbrev S : Step Terminal L L' Root x y X dies
  S = W.step

  pub ends_after : Ends Terminal L'
  ends_after r c = go (S.kind r)
    where
      go : Kind Terminal L L' x y X dies r → L' r ≡ free
      go (kept e _ _) = e ∙ W.ends r c
      go (crossed l h e _ _) = free_node (W.ends r c) e
      go (fresh _ _ d _ _ _ _ _) = absurd (d c)
      go (gone _ e) = e

  -- ---- a graph of n arguments

  -- which variable of the swap v is, if any
  data Stand (v : ℕ) : Type 0 where
    at_x : v ≡ x → Stand v
    at_y : v ≡ y → Stand v
    else : index v ≢ k → index v ≢ k + 1 → index' v ≡ index v → Stand v

  stand : (v : ℕ) → index v < n → Stand v
  stand v i = ⊎_elim at_x (λ a. ⊎_elim at_y (λ b. other a b) (decided (says_eqb v y))) (decided (says_eqb v x))
    where
      other : v ≢ x → v ≢ y → Stand v
      other a b = else (λ e. a (K.injective v x i (e ∙ sym K.index_x))) (λ e. b (K.injective v y i (e ∙ sym K.index_y))) (K.others v a b)

  inside : (v : ℕ) → index v < n → index' v < n
  inside v i = go (stand v i)
    where
      go : Stand v → index' v < n
      go (at_x e) = rw e (omega (arith, K))
      go (at_y e) = rw e (omega (arith, K))
      go (else _ _ e) = rw e i

  indexed' : (r : ℕ) {v l h : ℕ} → L' r ≡ node v l h → index' v < n
  indexed' r {v} {l} {h} e = go (origin W r v l h e)
    where
      go : Origin L x y X dies r v l h → index' v < n
      go (as_kept e' _ _) = inside v (D.graph.indexed r e')
      go (as_crossed _ _ _ _ p _) = rw p (omega (arith, K))
      go (as_fresh _ p _ _ _) = rw p (omega (arith, K))

  closed' : (r : ℕ) {v l h : ℕ} → L' r ≡ node v l h → (c : Bool) → Vertex Terminal L' (pick c l h)
  closed' r {v} {l} {h} e c = go (origin W r v l h e)
    where
      go : Origin L x y X dies r v l h → Vertex Terminal L' (pick c l h)
      go (as_kept e' f _) = lasts W (pick c l h) (D.graph.closed r e' c) (child_lives W r v l h e' f c)
      go (as_crossed l₀ h₀ e' t _ p) = rw (p c) (X-vertex W _ _ (asks W r l₀ h₀ e' t c))
      go (as_fresh _ _ s _ _) = let d : Deep W (pick c l h) = asked_deep W l h s c in lasts W (pick c l h) d.0 (deep_lives W (pick c l h) d)

  -- ---- ordered

  -- from above both levels nothing comes nearer than level k
  upper_below : (r j : ℕ) → Vertex Terminal L r → dies r ≡ false → j < k → j < level index n (L r) → j < level index' n (L' r)
  upper_below r j g f a b = go (S.kind r)
    where
      as_it_was : (m : Node) → L r ≡ m → j < level index' n m
      as_it_was free e = omega (arith, K)
      as_it_was (node v l h) e = exchanged (stand v (D.graph.indexed r e)) (rw e at b)
        where
          exchanged : Stand v → j < index v → j < index' v
          exchanged (at_x p) _ = rw p (omega (arith, K))
          exchanged (at_y p) _ = rw p (omega (arith, K))
          exchanged (else _ _ p) i = rw p i

      go : Kind Terminal L L' x y X dies r → j < level index' n (L' r)
      go (kept e _ _) = rw e (as_it_was (L r) refl)
      go (crossed _ _ _ _ e) = rw e (omega (arith, K))
      go (fresh _ _ c (inl e) _ _ _ _) = absurd (no_vertex W r g c e)
      go (fresh _ _ _ (inr t) _ _ _ _) = clash t f
      go (gone t _) = clash t f

  kept_below : (q v l h : ℕ) → L q ≡ node v l h → crosses L x y q ≡ false → (c : Bool) → index' v < level index' n (L' (pick c l h))
  kept_below q v l h e f c = go (stand v (D.graph.indexed q e))
    where
      r : ℕ
      r = pick c l h

      g : Vertex Terminal L r
      g = D.graph.closed q e c

      b : index v < level index n (L r)
      b = below W q e c

      go : Stand v → index' v < level index' n (L' r)
      go (at_x p) =
          let e' : L q ≡ node x l h = e ∙ ap (λ (u : ℕ). node u l h) p in
          let b' : index x < level index n (L r) = rw p at b in
          rw p (omega (arith, K, deep_level W r (deep_child W r g (omega (arith, K)) (stays_child L x y q l h e' f c))))
      go (at_y p) =
          let b' : index y < level index n (L r) = rw p at b in
          rw p (omega (arith, K, deep_level W r (g, omega (arith, K))))
      go (else a a' p) = rw p (⊎_elim upper lower (decided (says_ltb (index v) k)))
        where
          upper : index v < k → index v < level index' n (L' r)
          upper i = upper_below r (index v) g (child_lives W q v l h e f c) i b

          lower : (index v < k → ⊥) → index v < level index' n (L' r)
          lower i = let d : Deep W r = (g, omega (arith, b)) in rw (deep_stays W r d, same_level W (L r) d.1) b

  below' : (r : ℕ) {v l h : ℕ} → L' r ≡ node v l h → (c : Bool) → index' v < level index' n (L' (pick c l h))
  below' r {v} {l} {h} e c = go (origin W r v l h e)
    where
      go : Origin L x y X dies r v l h → index' v < level index' n (L' (pick c l h))
      go (as_kept e' f _) = kept_below r v l h e' f c
      go (as_crossed l₀ h₀ e' t p p') = rw (p' c, p) (omega (arith, K, X-level W _ _ (asks W r l₀ h₀ e' t c)))
      go (as_fresh _ p s _ _) = rw p (omega (arith, K, deep_level W (pick c l h) (asked_deep W l h s c)))

  -- ---- reduced

  unequal' : (r : ℕ) {v l h : ℕ} → L' r ≡ node v l h → l ≢ h
  unequal' r {v} {l} {h} e = go (origin W r v l h e)
    where
      go : Origin L x y X dies r v l h → l ≢ h
      go (as_kept e' _ _) = D.unequal r e'
      go (as_crossed l₀ h₀ e' t _ p) = λ z. cross_unequal W r l₀ h₀ e' t (sym (p false) ∙ z ∙ p true)
      go (as_fresh _ _ _ d _) = d

  -- no kept y record has the children of a crossed one
  kept_crossed : (r l h s l₀ h₀ : ℕ) → L r ≡ node y l h → L s ≡ node x l₀ h₀ → crosses L x y s ≡ true → ((c : Bool) → pick c l h ≡ Side L y X c l₀ h₀) → ⊥
  kept_crossed r l h s l₀ h₀ e e' t p = D.unequal s e' (grand_one D y l₀ h₀ (λ d. same d (S.serves _ _ (asks W s l₀ h₀ e' t d))))
    where
      same : (d : Bool) → Serves L' x X (grandchild L y d l₀) (grandchild L y d h₀) → grandchild L y d l₀ ≡ grandchild L y d h₀
      same d (inl z) = z.0
      same d (inr z) = absurd (deep_not_x W (pick d l h) _ _ (D.graph.closed r e d, omega (arith, K, below W r e d)) (ap L' (p d) ∙ z.1))

  single' : (r s : ℕ) {v l h : ℕ} → L' r ≡ node v l h → L' s ≡ node v l h → r ≡ s
  single' r s {v} {l} {h} e e' = go (origin W r v l h e) (origin W s v l h e')
    where
      both : {A : Type 0} → v ≡ y → v ≡ x → A
      both p q = absurd (x≢y W (sym q ∙ p))

      go : Origin L x y X dies r v l h → Origin L x y X dies s v l h → r ≡ s
      go (as_kept a _ _) (as_kept b _ _) = D.single r s a b
      go (as_kept a _ _) (as_crossed l₀ h₀ b t p q) = absurd (kept_crossed r l h s l₀ h₀ (rw p at a) b t q)
      go (as_kept a c _) (as_fresh _ p _ _ i) = absurd (i r (rw p at a) c)
      go (as_crossed l₀ h₀ b t p q) (as_kept a _ _) = absurd (kept_crossed s l h r l₀ h₀ (rw p at a) b t q)
      go (as_crossed l₀ h₀ a t p q) (as_crossed l₁ h₁ b u p' q') =
          let i : (d : Bool) → (grandchild L y d l₀ ≡ grandchild L y d l₁) × (grandchild L y d h₀ ≡ grandchild L y d h₁) =
          λ d. X-one W _ _ _ _ (asks W r l₀ h₀ a t d) (asks W s l₁ h₁ b u d) (sym (q d) ∙ q' d) in
          let z : l₀ ≡ l₁ = grand_one D y l₀ l₁ (λ d. (i d).0) in
          let w : h₀ ≡ h₁ = grand_one D y h₀ h₁ (λ d. (i d).1) in
          D.single r s a (rw (← z, ← w) at b)
      go (as_crossed _ _ _ _ p _) (as_fresh _ q _ _ _) = both p q
      go (as_fresh _ p _ _ i) (as_kept a c _) = absurd (i s (rw p at a) c)
      go (as_fresh _ q _ _ _) (as_crossed _ _ _ _ p _) = both p q
      go (as_fresh o p _ _ _) (as_fresh o' _ _ _ _) = S.fresh_single r s l h (rw p at e) (rw p at e') o o'

  -- ---- no idle record

  asked_named : (a b : ℕ) → Asked L x y a b → Named L' (X a b)
  asked_named a b s = record {
    parent = s.asker;
    variable = y;
    low = Side L y X false s.low s.high;
    high = Side L y X true s.low s.high;
    is = crossed_is W s.asker s.low s.high s.is s.cross;
    side = s.side;
    names = pick_side W s.side s.low s.high ∙ rw (← s.low_is, ← s.high_is);
  }

  -- the grandchildren that X is asked for are named afterwards, by the asker or by what was made
  parts_named : (a b : ℕ) → Asked L x y a b → (c : Bool) → Named L' (pick c a b)
  parts_named a b s c = go (S.serves a b s)
    where
      one : (c : Bool) → a ≡ b → pick c a b ≡ a
      one true p = sym p
      one false p = refl

      go : Serves L' x X a b → Named L' (pick c a b)
      go (inl p) = rw (one c p.0, ← p.1) (asked_named a b s)
      go (inr p) = record { parent = X a b; variable = x; low = a; high = b; is = p.1; side = c; names = refl }

  still_named : (r : ℕ) (m : Named L r) → crosses L x y m.parent ≡ false → dies m.parent ≡ false → Named L' r
  still_named r m c f = record {
    parent = m.parent;
    variable = m.variable;
    low = m.low;
    high = m.high;
    is = kept_is W m.parent m.variable m.low m.high m.is c f;
    side = m.side;
    names = m.names;
  }

  -- the same child, where the parent is known in another way
  named_as : (r : ℕ) (m : Named L r) {w a b : ℕ} → L m.parent ≡ node w a b → pick m.side a b ≡ r
  named_as r m e = pick_node (sym e ∙ m.is) m.side ∙ m.names

  parent_above : (r : ℕ) (m : Named L r) {w a b : ℕ} → L m.parent ≡ node w a b → index w < level index n (L r)
  parent_above r m {w} e = subst (λ (z : ℕ). index w < level index n (L z)) (named_as r m e) (below W m.parent e m.side)

  -- what a crossing record named has its grandchildren named
  cross_named : (r : ℕ) (m : Named L r) (d : Bool) → crosses L x y m.parent ≡ true → Named L' (grandchild L y d r)
  cross_named r m d t =
      let u : UsedOf x (L m.parent) = crosses_x L x y m.parent t in
      subst (λ (z : ℕ). Named L' z) (pick_grand L y m.side d u.low u.high ∙ ap (grandchild L y d) (named_as r m u.is))
      (parts_named _ _ (asks W m.parent u.low u.high u.is t d) m.side)

  -- a y record that lives: its root stays, and so does a record that named it and did not cross
  y_named : (r : ℕ) → UsedOf y (L r) → dies r ≡ false → Root r ⊎ Named L' r
  y_named r u f = go (S.lives r f u)
    where
      alive : (m : Named L r) → (dies m.parent ≡ true) ⊎ (dies m.parent ≡ false) → dies m.parent ≡ false
      alive m (inl d) =
          let w : UsedOf y (L m.parent) = S.dies_y m.parent d in
          absurd (omega (arith, parent_above r m w.is, ap (level index n) u.is))
      alive m (inr d) = d

      go : Root r ⊎ ((m : Named L r) × (crosses L x y m.parent ≡ false)) → Root r ⊎ Named L' r
      go (inl o) = inl o
      go (inr m) = inr (still_named r m.0 m.1 (alive m.0 (by (dies m.0.parent))))

  -- another record: where its parent crosses, it is its own grandchild; where its parent dies, it is the grandchild of one that crosses
  other_named : (r : ℕ) → is_of y (L r) ≡ false → Named L r → Named L' r
  other_named r t m = go (by (crosses L x y m.parent))
    where
      grandparent : (q : ℕ) (w : UsedOf y (L q)) (d : Bool) → pick d w.low w.high ≡ r → dies q ≡ true → (p : Named L q)
          → (crosses L x y p.parent ≡ true) ⊎ (crosses L x y p.parent ≡ false) → Named L' r
      grandparent q w d z e p (inl c) = subst (λ (s : ℕ). Named L' s) (grand_of L y q w d ∙ z) (cross_named q p d c)
      grandparent q w d z e p (inr c) = absurd (S.dies_named q p e c)

      parent_dies : dies m.parent ≡ true → (w : UsedOf y (L m.parent)) → Root m.parent ⊎ Named L m.parent → Named L' r
      parent_dies e w (inl o) = absurd (S.dies_root m.parent e o)
      parent_dies e w (inr p) = grandparent m.parent w m.side (named_as r m w.is) e p (by (crosses L x y p.parent))

      parent_stays : crosses L x y m.parent ≡ false → (dies m.parent ≡ true) ⊎ (dies m.parent ≡ false) → Named L' r
      parent_stays c (inl e) =
          let w : UsedOf y (L m.parent) = S.dies_y m.parent e in
          parent_dies e w (D.named m.parent (nonterminal w.is))
      parent_stays c (inr d) = still_named r m c d

      go : (crosses L x y m.parent ≡ true) ⊎ (crosses L x y m.parent ≡ false) → Named L' r
      go (inl c) = subst (λ (s : ℕ). Named L' s) (grand_self L y r true t) (cross_named r m true c)
      go (inr c) = parent_stays c (by (dies m.parent))

  -- a record that is used before and does not die
  lasting_named : (r : ℕ) → Nonterminal L r → dies r ≡ false → Root r ⊎ Named L' r
  lasting_named r u f = go (by (is_of y (L r)))
    where
      go : (is_of y (L r) ≡ true) ⊎ (is_of y (L r) ≡ false) → Root r ⊎ Named L' r
      go (inl t) = y_named r (of_true y (L r) t) f
      go (inr t) = ⊎_elim inl (λ m. inr (other_named r t m)) (D.named r u)

  named' : (r : ℕ) → Nonterminal L' r → Root r ⊎ Named L' r
  named' r u = go (origin W r u.variable u.low u.high u.is)
    where
      made : (l h : ℕ) → L' r ≡ node x l h → Asked L x y l h → l ≢ h → Serves L' x X l h → Named L' r
      made l h e s d (inl z) = absurd (d z.0)
      made l h e s d (inr z) = subst (λ (q : ℕ). Named L' q) (single' (X l h) r z.1 e) (asked_named l h s)

      go : Origin L x y X dies r u.variable u.low u.high → Root r ⊎ Named L' r
      go (as_kept e f d) = lasting_named r (nonterminal e) d
      go (as_crossed l₀ h₀ e _ _ _) = lasting_named r (nonterminal e) (x_lives W r l₀ h₀ e)
      go (as_fresh _ p s d _) = inr (made u.low u.high (rw p at u.is) s d (S.serves u.low u.high s))

  -- ---- roots

  pub root_lives : (r : ℕ) → Root r → dies r ≡ false
  root_lives r o = ⊎_elim (λ t. absurd (S.dies_root r t o)) (λ f. f) (by (dies r))

  pub root_vertex : (r : ℕ) → Root r → Vertex Terminal L r
  root_vertex r o = D.graph.rooted r o

  ordered' : (r : ℕ) {v l h : ℕ} → L' r ≡ node v l h → (c : Bool) {w a b : ℕ} → L' (pick c l h) ≡ node w a b → index' v < index' w
  ordered' r {v} e c p = subst (λ (m : Node). index' v < level index' n m) p (below' r e c)

  -- a swap of a diagram is a diagram, under the exchanged levels
  pub swap_again : Diagram Terminal L' Root index' n
  swap_again = record {
    graph = record {
      indexed = indexed';
      closed = closed';
      rooted = λ r o. lasts W r (root_vertex r o) (root_lives r o);
      ordered = ordered';
    };
    unequal = unequal';
    single = single';
    named = named';
  }
