-- One swap of a diagram changes no value: the reading of a reference under the inputs, before and afterwards.
use Rattle.std.specs.Prelude.{ℕ, zero, suc, ◌+◌, ◌≤◌, Bool, true, false, ◌⊎◌, ◌≡◌, refl}
use Rattle.std.proofs.Common.{arith, inl, inr, ap, sym, ◌∙◌, eq-eqb, ne_eqb}
use Rattle.lists.specs.Truth.{by, clash}
use Rattle.diagrams.specs.Node.{Node, node, pick}
use Rattle.diagrams.specs.Bryant.{Vertex}
use Rattle.diagrams.specs.Value.{value, with_input}
use Rattle.diagrams.specs.Levels.{level, free_node}
use Rattle.diagrams.specs.Falls.{value_terminal, value_step, value_agrees}
use Rattle.swap_rules.specs.Record.{is_of, UsedOf, of_true}
use Rattle.swap_rules.specs.Swap.{grandchild, crosses}
use Rattle.swap_rules.specs.Step.{Side, Asked, Kind, kept, crossed, fresh, gone, Serves, OneSwap}
use Rattle.swap_rules.proofs.Step.{grand_of, grand_self, pick_grand}
use Rattle.swap_rules.proofs.Stays.{below, Deep, deep_grand, deep_lives, pick_side, asks, child_lives}
use Rattle.swap_rules.proofs.Graph.{ends_after, root_lives, root_vertex, swap_again}

module _ {Terminal : ℕ → Type 0} {L L' : ℕ → Node} {Root : ℕ → Type 0} {index index' : ℕ → ℕ} {n k x y : ℕ} {X : ℕ → ℕ → ℕ} {dies : ℕ → Bool}
    (W : OneSwap Terminal L L' Root index index' n k x y X dies) (inputs : ℕ → Bool) where
  -- the value before, and afterwards
  abbrev V₀ : ℕ → Bool
  V₀ r = value L inputs n r

  abbrev V₁ : ℕ → Bool
  V₁ r = value L' inputs n r

  reads : (r v l h : ℕ) → L r ≡ node v l h → V₀ r ≡ V₀ (pick (inputs v) l h)
  reads r v l h e = value_step W.ends W.before.graph inputs r e

  reads' : (r v l h : ℕ) → L' r ≡ node v l h → V₁ r ≡ V₁ (pick (inputs v) l h)
  reads' r v l h e = value_step (ends_after W) (swap_again W).graph inputs r e

  terminal_value : (r : ℕ) → Terminal r → V₁ r ≡ V₀ r
  terminal_value r t = value_terminal L' inputs n r (ends_after W r t) ∙ sym (value_terminal L inputs n r (W.ends r t))

  -- a grandchild by y's own input reads as the child
  grand_value : (r : ℕ) → V₀ (grandchild L y (inputs y) r) ≡ V₀ r
  grand_value r = go (by (is_of y (L r)))
    where
      go : (is_of y (L r) ≡ true) ⊎ (is_of y (L r) ≡ false) → V₀ (grandchild L y (inputs y) r) ≡ V₀ r
      go (inl t) = let u : UsedOf y (L r) = of_true y (L r) t in ap V₀ (grand_of L y r u (inputs y)) ∙ sym (reads r y u.low u.high u.is)
      go (inr f) = ap V₀ (grand_self L y r (inputs y) f)

  -- X(a, b) reads as a where the input x is 0, and as b where it is 1
  X-value : (a b : ℕ) → Asked L x y a b → V₁ (X a b) ≡ V₁ (pick (inputs x) a b)
  X-value a b s = go (W.step.serves a b s)
    where
      one : (c : Bool) → a ≡ b → a ≡ pick c a b
      one true p = p
      one false p = refl

      go : Serves L' x X a b → V₁ (X a b) ≡ V₁ (pick (inputs x) a b)
      go (inl p) = ap V₁ (p.1 ∙ one (inputs x) p.0)
      go (inr p) = reads' (X a b) x a b p.1

  -- by induction on the levels below: `steps` of them
  abbrev KeptWithin : ℕ → Type 0
  KeptWithin steps = (r : ℕ) → Vertex Terminal L r → dies r ≡ false → n ≤ level index n (L r) + steps → V₁ r ≡ V₀ r

  kept_step : (steps : ℕ) → KeptWithin steps → (r v l h : ℕ) → L r ≡ node v l h → dies r ≡ false → n ≤ index v + suc steps → V₁ r ≡ V₀ r
  kept_step steps ih r v l h e d b = go (W.step.kind r)
    where
      go : Kind Terminal L L' x y X dies r → V₁ r ≡ V₀ r
      go (kept e' c _) =
          let q : ℕ = pick (inputs v) l h in
          reads' r v l h (e' ∙ e)
          ∙ ih q (W.before.graph.closed r e (inputs v)) (child_lives W r v l h e c (inputs v)) (omega (arith, below W r e (inputs v)))
          ∙ sym (reads r v l h e)
      go (crossed l₀ h₀ e' t e'') =
          let q : ℕ = pick (inputs x) l₀ h₀ in
          let g : Deep W (grandchild L y (inputs y) q) = deep_grand W r l₀ h₀ e' (inputs x) (inputs y) in
          let i : index v ≡ index x = sym (ap (level index n) e) ∙ ap (level index n) e' in
          reads' r y _ _ e''
          ∙ ap V₁ (pick_side W (inputs y) l₀ h₀)
          ∙ X-value _ _ (asks W r l₀ h₀ e' t (inputs y))
          ∙ ap V₁ (pick_grand L y (inputs x) (inputs y) l₀ h₀)
          ∙ ih (grandchild L y (inputs y) q) g.0 (deep_lives W _ g) (omega (arith, W.levels, g.1))
          ∙ grand_value q
          ∙ sym (reads r x l₀ h₀ e')
      go (fresh _ _ _ (inl e') _ _ _ _) = free_node e' e
      go (fresh _ _ _ (inr t) _ _ _ _) = clash t d
      go (gone t _) = clash t d

  kept_within : (steps : ℕ) → KeptWithin steps
  kept_within zero r (inl c) d b = terminal_value r c
  kept_within zero r (inr u) d b = absurd (omega (arith, W.before.graph.indexed r u.is, ap (level index n) u.is))
  kept_within (suc steps) r (inl c) d b = terminal_value r c
  kept_within (suc steps) r (inr u) d b = kept_step steps (kept_within steps) r u.variable u.low u.high u.is d (rw u.is at b)

  -- every vertex that does not die keeps its value
  pub value_kept : (r : ℕ) → Vertex Terminal L r → dies r ≡ false → value L' inputs n r ≡ value L inputs n r
  value_kept r g d = kept_within n r g d (omega arith)

  pub root_kept : (r : ℕ) → Root r → value L' inputs n r ≡ value L inputs n r
  root_kept r o = value_kept r (root_vertex W r o) (root_lives W r o)

  -- a child of a crossed record reads as the grandchild by x's input and the child's side
  pub side_value : (q l h : ℕ) → L q ≡ node x l h → crosses L x y q ≡ true → (d : Bool)
      → value L' inputs n (Side L y X d l h) ≡ value L inputs n (grandchild L y d (pick (inputs x) l h))
  side_value q l h e t d =
      let g : Deep W (grandchild L y d (pick (inputs x) l h)) = deep_grand W q l h e (inputs x) d in
      X-value _ _ (asks W q l h e t d) ∙ ap V₁ (pick_grand L y (inputs x) d l h) ∙ value_kept _ g.0 (deep_lives W _ g)

-- ---- the children of a crossed record are its cofactors by y

module _ {Terminal : ℕ → Type 0} {L L' : ℕ → Node} {Root : ℕ → Type 0} {index index' : ℕ → ℕ} {n k x y : ℕ} {X : ℕ → ℕ → ℕ} {dies : ℕ → Bool}
    (W : OneSwap Terminal L L' Root index index' n k x y X dies) (inputs : ℕ → Bool) (d : Bool) where
  abbrev fixed : ℕ → Bool
  fixed = with_input inputs y d

  fixed_y : fixed y ≡ d
  unfolding with_input
  fixed_y = rw (eq-eqb y y refl)

  fixed_other : (v : ℕ) → (v ≡ y → ⊥) → fixed v ≡ inputs v
  unfolding with_input
  fixed_other v z = rw (ne_eqb v y z)

  fixed_x : fixed x ≡ inputs x
  fixed_x = fixed_other x (λ z. omega (arith, W.levels.index_x, W.levels.index_y, ap index z))

  -- below y its input isn't asked for
  deep_fixed : (r : ℕ) → Deep W r → value L inputs n r ≡ value L fixed n r
  deep_fixed r g =
      value_agrees W.ends W.before.graph inputs fixed r g.0
      (λ v b. sym (fixed_other v (λ z. omega (arith, g.1, W.levels.index_y, ap index z))))

  pub side_cofactor : (q l h : ℕ) → L q ≡ node x l h → crosses L x y q ≡ true → value L' inputs n (Side L y X d l h) ≡ value L fixed n q
  side_cofactor q l h e t =
      side_value W inputs q l h e t d
      ∙ deep_fixed (grandchild L y d (pick (inputs x) l h)) (deep_grand W q l h e (inputs x) d)
      ∙ ap (λ (c : Bool). value L fixed n (grandchild L y c (pick (inputs x) l h))) (sym fixed_y)
      ∙ grand_value W fixed (pick (inputs x) l h)
      ∙ ap (λ (c : Bool). value L fixed n (pick c l h)) (sym fixed_x)
      ∙ sym (value_step W.ends W.before.graph fixed q e)
