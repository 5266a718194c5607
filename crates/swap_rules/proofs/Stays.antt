-- Laws of what specs/Stays.antt defines.
use Rattle.std.specs.Prelude.{ℕ, ◌+◌, ◌<◌, Bool, true, false, ◌≢◌, ◌⊎◌, ◌≡◌, refl}
use Rattle.std.proofs.Common.{arith, inl, inr, ⊎_elim, ap, sym, ◌∙◌}
use Rattle.lists.specs.Truth.{by, clash}
use Rattle.diagrams.specs.Node.{Node, free, node, pick}
use Rattle.diagrams.specs.Bryant.{Vertex}
use Rattle.diagrams.specs.Diagram.{Named, Diagram}
use Rattle.diagrams.specs.Levels.{nonterminal, level, child_below, free_node}
use Rattle.swap_rules.specs.Record.{is_of, UsedOf, of_true, of_node, pick_node}
use Rattle.swap_rules.specs.Swap.{grandchild, crosses}
use Rattle.swap_rules.specs.Step.{Levels, Side, Asked, Kind, kept, crossed, fresh, gone, Serves, Step, OneSwap}
use Rattle.swap_rules.proofs.Step.{grand_of, grand_self, grand_differ, crosses_child}
use Rattle.swap_rules.specs.Stays.{Origin, as_kept, as_crossed, as_fresh}

module _ {Terminal : ℕ → Type 0} {L L' : ℕ → Node} {Root : ℕ → Type 0} {index index' : ℕ → ℕ} {n k x y : ℕ} {X : ℕ → ℕ → ℕ} {dies : ℕ → Bool}
    (W : OneSwap Terminal L L' Root index index' n k x y X dies) where
  abbrev D : Diagram Terminal L Root index n
  D = W.before

  abbrev K : Levels index index' n k x y
  K = W.levels

  abbrev S : Step Terminal L L' Root x y X dies
  S = W.step

  pub below : (r : ℕ) {v l h : ℕ} → L r ≡ node v l h → (c : Bool) → index v < level index n (L (pick c l h))
  below r e c = child_below W.ends D.graph r e c

  pub x≢y : x ≢ y
  x≢y e = let p : index x ≡ index y = ap index e in omega (arith, K)

  -- ---- below both levels

  abbrev pub Deep : ℕ → Type 0
  Deep r = Vertex Terminal L r × (k + 1 < level index n (L r))

  -- a vertex below x's level is a y record, or below y's level too
  pub deep_child : (r : ℕ) → Vertex Terminal L r → k < level index n (L r) → is_of y (L r) ≡ false → Deep r
  deep_child r g b t = (g, go (L r) refl)
    where
      go : (m : Node) → L r ≡ m → k + 1 < level index n (L r)
      go free e = rw e K.pair_inside
      go (node v l h) e =
          let i : index v < n = D.graph.indexed r e in
          let b' : k < index v = rw e at b in
          let d : index v ≢ k + 1 = λ p. clash (of_node y (e ∙ ap (λ (u : ℕ). node u l h) (K.injective v y i (p ∙ sym K.index_y)))) t in
          rw e (omega arith)

  pub deep_grand : (q l h : ℕ) → L q ≡ node x l h → (c d : Bool) → Deep (grandchild L y d (pick c l h))
  deep_grand q l h e c d = go (by (is_of y (L r)))
    where
      r : ℕ
      r = pick c l h

      go : (is_of y (L r) ≡ true) ⊎ (is_of y (L r) ≡ false) → Deep (grandchild L y d r)
      go (inl t) =
          let u : UsedOf y (L r) = of_true y (L r) t in
          rw (grand_of L y r u d) (D.graph.closed r u.is d, omega (arith, below r u.is d, K))
      go (inr t) = rw (grand_self L y r d t) (deep_child r (D.graph.closed q e c) (omega (arith, below q e c, K)) t)

  pub deep_lives : (r : ℕ) → Deep r → dies r ≡ false
  deep_lives r d = ⊎_elim (λ t. let u : UsedOf y (L r) = S.dies_y r t in absurd (omega (arith, d.1, ap (level index n) u.is, K))) (λ f. f) (by (dies r))

  pub no_vertex : (r : ℕ) → Vertex Terminal L r → (Terminal r → ⊥) → L r ≡ free → ⊥
  no_vertex r (inl t) c e = c t
  no_vertex r (inr u) c e = free_node e u.is

  pub deep_stays : (r : ℕ) → Deep r → L' r ≡ L r
  deep_stays r d = go (S.kind r)
    where
      go : Kind Terminal L L' x y X dies r → L' r ≡ L r
      go (kept e _ _) = e
      go (crossed l h e _ _) = absurd (omega (arith, d.1, ap (level index n) e, K))
      go (fresh a b c (inl e) _ _ _ _) = absurd (no_vertex r d.0 c e)
      go (fresh a b c (inr t) _ _ _ _) = clash t (deep_lives r d)
      go (gone t _) = clash t (deep_lives r d)

  -- the level of a deep record stays
  pub same_level : (m : Node) → k + 1 < level index n m → level index' n m ≡ level index n m
  same_level free d = refl
  same_level (node v l h) d =
      K.others v (λ e. let p : index v ≡ index x = ap index e in omega (arith, K)) (λ e. let p : index v ≡ index y = ap index e in omega (arith, K))

  pub deep_level : (r : ℕ) → Deep r → k + 1 < level index' n (L' r)
  deep_level r d = rw (deep_stays r d, same_level (L r) d.1) d.1

  -- a deep reference names no x record, before and after
  pub deep_not_x : (r a b : ℕ) → Deep r → L' r ≡ node x a b → ⊥
  deep_not_x r a b d e = omega (arith, d.1, ap (level index n) (sym (deep_stays r d) ∙ e), K)

  -- ---- what does not die

  pub lasts : (r : ℕ) → Vertex Terminal L r → dies r ≡ false → Vertex Terminal L' r
  lasts r (inl t) f = inl t
  lasts r (inr u) f = go (S.kind r)
    where
      go : Kind Terminal L L' x y X dies r → Vertex Terminal L' r
      go (kept e _ _) = inr (nonterminal (e ∙ u.is))
      go (crossed l h _ _ e) = inr (nonterminal e)
      go (fresh a b c (inl e) _ _ _ _) = free_node e u.is
      go (fresh a b c (inr t) _ _ _ _) = clash t f
      go (gone t _) = clash t f

  pub kept_is : (q v l h : ℕ) → L q ≡ node v l h → crosses L x y q ≡ false → dies q ≡ false → L' q ≡ node v l h
  kept_is q v l h e c f = go (S.kind q)
    where
      go : Kind Terminal L L' x y X dies q → L' q ≡ node v l h
      go (kept e' _ _) = e' ∙ e
      go (crossed _ _ _ t _) = clash t c
      go (fresh _ _ _ (inl e') _ _ _ _) = free_node e' e
      go (fresh _ _ _ (inr t) _ _ _ _) = clash t f
      go (gone t _) = clash t f

  pub x_lives : (q l h : ℕ) → L q ≡ node x l h → dies q ≡ false
  x_lives q l h e = go (by (dies q))
    where
      go : (dies q ≡ true) ⊎ (dies q ≡ false) → dies q ≡ false
      go (inl t) = let p : L q ≡ node y _ _ = (S.dies_y q t).is in absurd (x≢y (cc))
      go (inr f) = f

  pub crossed_is : (q l h : ℕ) → L q ≡ node x l h → crosses L x y q ≡ true → L' q ≡ node y (Side L y X false l h) (Side L y X true l h)
  crossed_is q l h e t = go (S.kind q)
    where
      go : Kind Terminal L L' x y X dies q → L' q ≡ node y (Side L y X false l h) (Side L y X true l h)
      go (kept _ f _) = clash t f
      go (crossed l' h' e' _ e'') = let p : l' ≡ l = cc in let p' : h' ≡ h = cc in rw (p, p') at e''
      go (fresh _ _ _ (inl e') _ _ _ _) = free_node e' e
      go (fresh _ _ _ (inr t') _ _ _ _) = clash t' (x_lives q l h e)
      go (gone t' _) = clash t' (x_lives q l h e)

  pub pick_side : (c : Bool) (l h : ℕ) → pick c (Side L y X false l h) (Side L y X true l h) ≡ Side L y X c l h
  pick_side true l h = refl
  pick_side false l h = refl

  -- ---- what is asked for

  pub asks : (q l h : ℕ) → L q ≡ node x l h → crosses L x y q ≡ true → (d : Bool) → Asked L x y (grandchild L y d l) (grandchild L y d h)
  asks q l h e t d = record { asker = q; low = l; high = h; is = e; cross = t; side = d; low_is = refl; high_is = refl }

  pub asked_deep : (a b : ℕ) → Asked L x y a b → (c : Bool) → Deep (pick c a b)
  asked_deep a b s true = rw s.high_is (deep_grand s.asker s.low s.high s.is true s.side)
  asked_deep a b s false = rw s.low_is (deep_grand s.asker s.low s.high s.is false s.side)

  pub X-vertex : (a b : ℕ) → Asked L x y a b → Vertex Terminal L' (X a b)
  X-vertex a b s = go (S.serves a b s)
    where
      d : Deep a
      d = asked_deep a b s false

      go : Serves L' x X a b → Vertex Terminal L' (X a b)
      go (inl p) = rw p.1 (lasts a d.0 (deep_lives a d))
      go (inr p) = inr (nonterminal p.1)

  pub X-level : (a b : ℕ) → Asked L x y a b → k < level index' n (L' (X a b))
  X-level a b s = go (S.serves a b s)
    where
      go : Serves L' x X a b → k < level index' n (L' (X a b))
      go (inl p) = rw p.1 (omega (arith, deep_level a (asked_deep a b s false)))
      go (inr p) = rw p.1 (omega (arith, K))

  -- X(a, b) says what a and b are
  pub X-one : (a b a' b' : ℕ) → Asked L x y a b → Asked L x y a' b' → X a b ≡ X a' b' → (a ≡ a') × (b ≡ b')
  X-one a b a' b' s s' e = go (S.serves a b s) (S.serves a' b' s')
    where
      go : Serves L' x X a b → Serves L' x X a' b' → (a ≡ a') × (b ≡ b')
      go (inl p) (inl p') = ((cc), (cc))
      go (inl p) (inr p') = absurd (deep_not_x a a' b' (asked_deep a b s false) (ap L' (sym p.1 ∙ e) ∙ p'.1))
      go (inr p) (inl p') = absurd (deep_not_x a' a b (asked_deep a' b' s' false) (ap L' (sym p'.1 ∙ sym e) ∙ p.1))
      go (inr p) (inr p') =
          let z : node x a b ≡ node x a' b' = sym p.1 ∙ ap L' e ∙ p'.1 in
          ((cc), (cc))

  pub cross_unequal : (q l h : ℕ) → L q ≡ node x l h → crosses L x y q ≡ true → Side L y X false l h ≢ Side L y X true l h
  cross_unequal q l h e t z =
      let c : (c : Bool) × UsedOf y (L (pick c l h)) = crosses_child L x y q l h e t in
      grand_differ D y (pick c.0 l h) c.1 (both c.0 (X-one _ _ _ _ (asks q l h e t false) (asks q l h e t true) z))
    where
      both : (c : Bool) → (grandchild L y false l ≡ grandchild L y true l) × (grandchild L y false h ≡ grandchild L y true h)
          → grandchild L y false (pick c l h) ≡ grandchild L y true (pick c l h)
      both true i = i.1
      both false i = i.0

  -- ---- where a used record comes from

  pub origin : (r v l h : ℕ) → L' r ≡ node v l h → Origin L x y X dies r v l h
  origin r v l h e = go (S.kind r)
    where
      go : Kind Terminal L L' x y X dies r → Origin L x y X dies r v l h
      go (kept e' c f) = as_kept (sym e' ∙ e) c f
      go (crossed l₀ h₀ e' c e'') =
          let z : node v l h ≡ node y (Side L y X false l₀ h₀) (Side L y X true l₀ h₀) = sym e ∙ e'' in
          as_crossed l₀ h₀ e' c (cc) (λ d. pick_node z d ∙ pick_side d l₀ h₀)
      go (fresh a b c o e' s d i) =
          let p : a ≡ l = cc in
          let q : b ≡ h = cc in
          as_fresh o (cc) (rw (p, q) at s) (rw (p, q) at d) (rw (p, q) at i)
      go (gone _ e') = free_node e' e

  -- a child of a record that stays does not die
  pub child_lives : (q v l h : ℕ) → L q ≡ node v l h → crosses L x y q ≡ false → (c : Bool) → dies (pick c l h) ≡ false
  child_lives q v l h e f c = go (by (dies (pick c l h)))
    where
      named : Named L (pick c l h)
      named = record { parent = q; variable = v; low = l; high = h; is = e; side = c; names = refl }

      go : (dies (pick c l h) ≡ true) ⊎ (dies (pick c l h) ≡ false) → dies (pick c l h) ≡ false
      go (inl t) = absurd (S.dies_named (pick c l h) named t f)
      go (inr d) = d
