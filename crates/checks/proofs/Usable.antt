-- Laws of what specs/Usable.antt defines.
use Rattle.std.specs.Prelude.{ℕ, zero, suc, ◌+◌, ◌-◌, ◌<◌, Bool, true, false, List, ◌⊎◌, ◌≡◌, refl, length}
use Rattle.std.proofs.Common.{inl, inr, ⊎_elim, ap, sym, ◌∙◌, lt_of_not-le, not-le_of_lt, arith}
use Rattle.lists.specs.Says.{Some, either_side, nowhere, passes, stable}
use Rattle.diagrams.specs.Layout.{records, root_count, variable_at, low_at, high_at, root_at}
use Rattle.diagrams.specs.Node.{pick, Constant, at, ref}
use Rattle.diagrams.specs.Decode.{Used, decode, WellLaid}
use Rattle.diagrams.specs.Lookup.{roots_of, lookup, Stored, record_at, node_of, stored, used_node, length_roots, root_is}
use Rattle.diagrams.specs.Bryant.{Among, Vertex, Ordered}
use Rattle.diagrams.specs.Diagram.{Named, Diagram}
use Rattle.diagrams.proofs.Reduced.{bryant_of, diagram_of, look_ends}
use Rattle.diagrams.specs.References.{Dead}
use Rattle.orders.specs.Permutation.{level_of, level_inside, inside_level}
use Rattle.check_permutation.specs.BadPlace.{permutation_if, permutation_then}
use Rattle.check_sizes.specs.Sizes.{sizes_if, sizes_then}
use Rattle.check_malformed.specs.Malformed.{Malformed, malformed_says, zeros_says, empty_says}
use Rattle.check_levels.specs.Levels.{NotUnder, below_says}
use Rattle.check_equal.specs.Equal.{equal_says}
use Rattle.check_repeats.specs.Repeats.{Same, repeats_says}
use Rattle.check_roots.specs.Roots.{root_says}
use Rattle.check_names.specs.Names.{NamedByRoot, NamedByRecord, named_says, idle_says}
use Rattle.checks.specs.Stages.{clear, verdict_of, only_passed, passed_only, AllPass, none, also, clear_if, clear_only}
use Rattle.checks.specs.Check.{table_stages, check_stages}
use Rattle.checks.specs.Usable.{Passes, Usable}

pub all_pass : (t r o : List ℕ) → Passes t r o → AllPass (check_stages t r o)
unfolding check_stages table_stages
all_pass t r o p = also (only_passed 0 p.c1) (also p.c2 (also p.c4 (also p.c5 (also p.c6 (also p.c7 (also p.c8 (also p.c9 none)))))))

pub passes_all : (t r o : List ℕ) → AllPass (check_stages t r o) → Passes t r o
unfolding check_stages table_stages
passes_all t r o (also h1 (also h2 (also h4 (also h5 (also h6 (also h7 (also h8 (also h9 none)))))))) =
    record { c1 = passed_only 0 h1; c2 = h2; c4 = h4; c5 = h5; c6 = h6; c7 = h7; c8 = h8; c9 = h9 }

-- ---- a reference that is not dead is a vertex, and back

past_two : (i : ℕ) → ref i - 2 ≡ i
past_two i = omega arith

vertex_if : (t : List ℕ) (x : ℕ) → (Dead t x → ⊥) → Vertex Constant (lookup t) x
vertex_if t zero f = inl (omega arith)
vertex_if t (suc zero) f = inl (omega arith)
vertex_if t (suc (suc i)) f =
    inr (either_side i (records t)
    (λ b. used_node t i b (λ e. f (omega arith, inr (rw (past_two i) e))))
    (λ b. absurd (f (omega arith, inl (rw (past_two i) b)))))

vertex_then : (t : List ℕ) (x : ℕ) → Vertex Constant (lookup t) x → Dead t x → ⊥
vertex_then t x (inl c) d = omega (arith, d.0)
vertex_then t x (inr u) d = go (stored t x u.is) d
  where
    go : {y v l h : ℕ} → Stored t y v l h → Dead t y → ⊥
    go (record_at i b m) e = ⊎_elim (λ c. omega (arith, rw (past_two i) at c)) (λ f. m (rw (past_two i) at f)) e.1

-- ---- who names a record

pub by_root_lem : (r : List ℕ) (x : ℕ) → NamedByRoot r x → Among (roots_of r) x
by_root_lem r x s = record { index = s.index; below = rw (length_roots r) s.below; holds = root_is r s.index s.below ∙ s.holds }

pub root_by : (r : List ℕ) (x : ℕ) → Among (roots_of r) x → NamedByRoot r x
root_by r x s =
    let b : s.index < root_count r = rw (length_roots r) at s.below in
    record { index = s.index; below = b; holds = sym (root_is r s.index b) ∙ s.holds }

pub root_among : (r : List ℕ) (k : ℕ) → k < root_count r → Among (roots_of r) (root_at r k)
root_among r k b = by_root_lem r (root_at r k) (record { index = k; below = b; holds = refl })

either_names : (t : List ℕ) (i x : ℕ) → (low_at t i ≡ x) ⊎ (high_at t i ≡ x) → (side : Bool) × (pick side (low_at t i) (high_at t i) ≡ x)
either_names t i x (inl e) = (false, e)
either_names t i x (inr e) = (true, e)

names_either : (t : List ℕ) (i x : ℕ) (side : Bool) → pick side (low_at t i) (high_at t i) ≡ x → (low_at t i ≡ x) ⊎ (high_at t i ≡ x)
names_either t i x false e = inl e
names_either t i x true e = inr e

pub by_record_lem : (t : List ℕ) (x : ℕ) → NamedByRecord t x → Named (lookup t) x
by_record_lem t x s =
    let i : ℕ = s.index in
    let w = either_names t i x s.holds.1 in
    record {
      parent = ref i;
      variable = variable_at t i;
      low = low_at t i;
      high = high_at t i;
      is = node_of t i s.below s.holds.0;
      side = w.0;
      names = w.1;
    }

pub record_by : (t : List ℕ) (x : ℕ) → Named (lookup t) x → NamedByRecord t x
record_by t x m = go (stored t m.parent m.is) m.names
  where
    go : {y v l h : ℕ} → Stored t y v l h → pick m.side l h ≡ x → NamedByRecord t x
    go (record_at i b u) e = record { index = i; below = b; holds = (u, names_either t i x m.side e) }

module _ (t r o : List ℕ) where
  -- ---- from the checks to the graph
  module _ (p : Passes t r o) where
    formed : (i : ℕ) → i < records t → Malformed t (length o) i → ⊥
    formed = nowhere (malformed_says t (length o)) p.c4

    is_laid : WellLaid t
    is_laid = record {
      whole = (sizes_if t r o p.c1).whole_records;
      zeros = λ i b. stable (zeros_says t i) (λ z. formed i b (inl (inl z)));
      empty = λ i b f. stable (empty_says t i) (λ z. formed i b (inl (inr (f, z))));
    }

    alive : (i : ℕ) → i < records t → Used t i → (side : Bool) → Dead t (pick side (low_at t i) (high_at t i)) → ⊥
    alive i b u false d = formed i b (inr (u, inl (inr d)))
    alive i b u true d = formed i b (inr (u, inr d))

    under : (i : ℕ) → i < records t → Used t i → (side : Bool) → NotUnder t (level_of o) i (pick side (low_at t i) (high_at t i)) → ⊥
    under i b u false d = nowhere (below_says t (level_of o)) p.c5 i b (u, inl d)
    under i b u true d = nowhere (below_says t (level_of o)) p.c5 i b (u, inr d)

    -- the records, one by one
    indexed_at : {x v l h : ℕ} → Stored t x v l h → level_of o v < length o
    indexed_at (record_at i b u) = level_inside o (variable_at t i) (permutation_if o p.c2) (lt_of_not-le (λ e. formed i b (inr (u, inl (inl e)))))

    closed_at : {x v l h : ℕ} → Stored t x v l h → (side : Bool) → Vertex Constant (lookup t) (pick side l h)
    closed_at (record_at i b u) side = vertex_if t (pick side (low_at t i) (high_at t i)) (alive i b u side)

    below_at : {x v l h y w c d : ℕ} (side : Bool) → Stored t x v l h → Stored t y w c d → y ≡ pick side l h → level_of o v < level_of o w
    below_at side (record_at i b u) (record_at j d m) e =
        let z : pick side (low_at t i) (high_at t i) - 2 ≡ j = omega (arith, e) in
        lt_of_not-le (λ f. under i b u side ((omega (arith, e), rw z d), rw z f))

    unequal_at : {x v l h : ℕ} → Stored t x v l h → l ≡ h → ⊥
    unequal_at (record_at i b u) e = nowhere (equal_says t) p.c6 i b (u, e)

    earlier : (i j : ℕ) → i < records t → Used t i → j < i → Same t i j → ⊥
    earlier i j b u l e = nowhere (repeats_says t) p.c7 i b (u, record { index = j; below = l; holds = e })

    named_at : {x v l h : ℕ} → Stored t x v l h → Among (roots_of r) x ⊎ Named (lookup t) x
    named_at (record_at i b u) =
        let two : i + 2 ≡ ref i = omega arith in
        ⊎_elim
        (λ s. inl (rw two at (by_root_lem r (i + 2) s)))
        (λ s. inr (rw two at (by_record_lem t (i + 2) s)))
        (stable (named_says t r (i + 2)) (λ f. nowhere (idle_says t r) p.c9 i b (u, f)))

    rooted_at : (x : ℕ) → NamedByRoot r x → Vertex Constant (lookup t) x
    rooted_at x s = rw s.holds at (vertex_if t (root_at r s.index) (nowhere (root_says t r) p.c8 s.index s.below))

    single_at : {x y v l h w c d : ℕ} → Stored t x v l h → Stored t y w c d → v ≡ w → l ≡ c → h ≡ d → x ≡ y
    single_at (record_at i b u) (record_at j c m) e f g =
        either_side i j
        (λ k. absurd (earlier j i c m k ((e, f), g)))
        (λ k. either_side j i (λ q. absurd (earlier i j b u q ((sym e, sym f), sym g))) (λ q. let z : i ≡ j = omega arith in ap ref z))

    is_ordered : Ordered Constant (lookup t) (Among (roots_of r)) (level_of o) (length o)
    is_ordered = record {
      indexed = λ x e. indexed_at (stored t x e);
      closed = λ x e side. closed_at (stored t x e) side;
      rooted = λ x s. rooted_at x (root_by r x s);
      ordered = λ x e side f. below_at side (stored t x e) (stored t _ f) refl;
    }

    is_diagram : Diagram Constant (lookup t) (Among (roots_of r)) (level_of o) (length o)
    is_diagram = record {
      graph = is_ordered;
      unequal = λ x e. unequal_at (stored t x e);
      single = λ x y e f. single_at (stored t x e) (stored t y f) refl refl refl;
      named = λ x u. named_at (stored t x u.is);
    }

    pub usable_if : Usable t r o
    usable_if = record {
      sizes = sizes_if t r o p.c1;
      order = permutation_if o p.c2;
      laid = is_laid;
      bryant = bryant_of (look_ends (at (decode t))) is_diagram;
    }

  -- ---- from the graph to the checks
  module _ (q : Usable t r o) where
    graph : Diagram Constant (lookup t) (Among (roots_of r)) (level_of o) (length o)
    graph = diagram_of (look_ends (at (decode t))) q.bryant

    well_formed : (i : ℕ) → i < records t → Malformed t (length o) i → ⊥
    well_formed i b (inl (inl z)) = z (q.laid.zeros i b)
    well_formed i b (inl (inr w)) = w.1 (q.laid.empty i b w.0)
    well_formed i b (inr w) =
        let e = node_of t i b w.0 in
        let level : variable_at t i < length o = inside_level o (variable_at t i) q.order (graph.graph.indexed (ref i) e) in
        ⊎_elim
        (⊎_elim (not-le_of_lt level) (vertex_then t (low_at t i) (graph.graph.closed (ref i) e false)))
        (vertex_then t (high_at t i) (graph.graph.closed (ref i) e true))
        w.1

    is_under : (i : ℕ) → i < records t → Used t i → (side : Bool) → NotUnder t (level_of o) i (pick side (low_at t i) (high_at t i)) → ⊥
    is_under i b u side n = go (graph.graph.closed (ref i) (node_of t i b u) side)
      where
        lower : {y w c d : ℕ} → Stored t y w c d → level_of o (variable_at t i) < level_of o w → NotUnder t (level_of o) i y → ⊥
        lower (record_at j f g) k m = not-le_of_lt k (rw (past_two j) at m.1)

        go : Vertex Constant (lookup t) (pick side (low_at t i) (high_at t i)) → ⊥
        go (inl c) = omega (arith, n.0.0)
        go (inr m) = lower (stored t (pick side (low_at t i) (high_at t i)) m.is) (graph.graph.ordered (ref i) (node_of t i b u) side m.is) n

    no_repeat : (i : ℕ) → i < records t → Used t i × Some (Same t i) i → ⊥
    no_repeat i b w =
        let j : ℕ = w.1.index in
        let l : j < i = w.1.below in
        let s : Same t i j = w.1.holds in
        let u : Used t j = λ e. w.0 (sym s.0.0 ∙ e) in
        let e : ref i ≡ ref j = graph.single (ref i) (ref j) (node_of t i b w.0) (rw (s.0.0, s.0.1, s.1) at (node_of t j (omega arith) u)) in
        omega arith

    not_idle : (i : ℕ) → i < records t → Used t i × (NamedByRoot r (i + 2) ⊎ NamedByRecord t (i + 2) → ⊥) → ⊥
    not_idle i b w =
        let two : ref i ≡ i + 2 = omega arith in
        w.1
        (⊎_elim
        (λ s. inl (rw two at (root_by r (ref i) s)))
        (λ m. inr (rw two at (record_by t (ref i) m)))
        (graph.named (ref i) (used_node t i b w.0)))

    pub usable_then : Passes t r o
    usable_then = record {
      c1 = sizes_then t r o q.sizes;
      c2 = permutation_then o q.order;
      c4 = passes (malformed_says t (length o)) well_formed;
      c5 = passes (below_says t (level_of o)) (λ i b w. ⊎_elim (is_under i b w.0 false) (is_under i b w.0 true) w.1);
      c6 = passes (equal_says t) (λ i b w. graph.unequal (ref i) (node_of t i b w.0) w.1);
      c7 = passes (repeats_says t) no_repeat;
      c8 = passes (root_says t r) (λ k b. vertex_then t (root_at r k) (graph.graph.rooted (root_at r k) (root_among r k b)));
      c9 = passes (idle_says t r) not_idle;
    }

  -- ---- so exactly such a table is clear
  pub usable_clear : Usable t r o → verdict_of (check_stages t r o) ≡ clear
  usable_clear q = clear_if (check_stages t r o) (all_pass t r o (usable_then q))

  pub clear_usable : verdict_of (check_stages t r o) ≡ clear → Usable t r o
  clear_usable e = usable_if (passes_all t r o (clear_only (check_stages t r o) e))
