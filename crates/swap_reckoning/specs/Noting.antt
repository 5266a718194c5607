-- What the code finds when X(a, b) is asked for is what the definition speaks of: among the standing records, among the new ones, and in the slots.
use Prim.Native.Nat.{ℕ, ◌+◌, ◌≤◌, ◌<◌}
use Rattle.std.proofs.Math.Bool.{Bool, cond, not}
use Rattle.std.specs.Prelude.{true, false, ◌&&◌, ◌⊎◌, ◌≡◌, refl, eqb, ltb, length, get_or}
use mathlib.Core.List.{List, [], ◌∷◌, ◌++◌}
use Rattle.std.proofs.Common.{inl, inr, ⊎_elim, ap₂, ◌∙◌, arith, ltb-true, lt-ltb, le-ltb, eqb-true, eq-eqb, ne_eqb}
use Rattle.std.proofs.Math.Path.{ap, sym}
use Rattle.std.proofs.lemmas.Bool.{eqb-false}
use Rattle.lists.specs.Begins.{place_of}
use Rattle.lists.specs.First.{first, any, first_agrees}
use Rattle.lists.specs.Says.{either_side}
use Rattle.lists.specs.Truth.{by}
use Rattle.lists.specs.Ranks.{which_finds, which_misses}
use Rattle.lists.specs.Which.{which}
use Rattle.diagrams.specs.Layout.{records, variable_at, low_at, high_at, is_free}
use Rattle.diagrams.specs.Node.{Node, free, node, ref, look, two_more}
use Rattle.diagrams.specs.Decode.{node_at}
use Rattle.diagrams.specs.Lookup.{lookup, at_decode}
use Rattle.swap_rules.specs.Record.{low_of, high_of, is_of, same}
use Rattle.swap_rules.specs.Swap.{crosses, stands, is_new}
use Rattle.swap_records.specs.Kinds.{stands_at}
use Rattle.swap_records.specs.Children.{children, nodes_of, length_nodes, nodes_at, nodes_more}
use Rattle.swap_records.specs.Listed.{Lists, entry_below}
use Rattle.swap_records.specs.declared.children.Children.{Children}
use Rattle.swap_reckoning.specs.Asked.{stands_in, noted, settled_in}
use Rattle.swap_reckoning.specs.Searching.{hits, matches_at, new_at, slot_at, note_pair, settled_at}

-- ---- the new records: a search among their children is a search among the records

new_first : (x : ℕ) (news : List Children) (a b : ℕ)
    → place_of (same (node x a b)) free (nodes_of x news) ≡ first (new_at news (children a b)) (length news)
unfolding new_at same
new_first x news a b =
    rw (length_nodes x news)
    (first_agrees _ (new_at news (children a b)) (length news) (λ j h. ap (same (node x a b)) (nodes_at x news j h) ∙ rw (eq-eqb x x refl)))

-- ---- the slots

slot_is : (slots : List ℕ) (j : ℕ) → slot_at slots j ≡ ref (get_or slots j 0)
unfolding slot_at
slot_is slots j = two_more _

-- ---- the records that stand: the code looks among these, the definition among all

eqb_turned : (a b : ℕ) → eqb a b ≡ eqb b a
eqb_turned a b =
    ⊎_elim (λ t. t ∙ sym (eq-eqb b a (sym (eqb-true a b t)))) (λ f. f ∙ sym (ne_eqb b a (λ z. eqb-false a b f (sym z)))) (by (eqb a b))

and_turned : (a b : Bool) → (a && b) ≡ (b && a)
and_turned true true = refl
and_turned true false = refl
and_turned false true = refl
and_turned false false = refl

regrouped : (a b c d : Bool) → (a && b && c && d) ≡ ((a && d) && (b && c))
regrouped true b c d = and_turned (b && c) d
regrouped false b c d = refl

module _ (t : List ℕ) (x y : ℕ) where
  stands_is : (a b j : ℕ) → j < records t → stands_in t x y (node x a b) j ≡ (stands_at t x y j && hits t a b j)
  unfolding stands stands_at look node_at same is_of
  stands_is a b j h = rw (at_decode t j h) (go (is_free t j) (crosses (lookup t) x y (ref j)))
    where
      m : Bool → Node
      m u = cond u free (node (variable_at t j) (low_at t j) (high_at t j))

      go : (u c : Bool) → (same (node x a b) (m u) && not c) ≡ ((is_of x (m u) && not c) && hits t a b j)
      go true c = refl
      go false c = rw (eqb_turned x (variable_at t j)) (regrouped (eqb (variable_at t j) x) (eqb a (low_at t j)) (eqb b (high_at t j)) (not c))

  module _ {standing : List ℕ} (S : Lists (stands_at t x y) (records t) standing) (a b : ℕ) where
    abbrev found : ℕ
    found = first (matches_at t standing a b) (length standing)

    abbrev sought : ℕ
    sought = first (stands_in t x y (node x a b)) (records t)

    abbrev all : List ℕ
    all = which (stands_at t x y) (records t)

    sought_is : sought ≡ first (λ j. stands_at t x y j && hits t a b j) (records t)
    sought_is = first_agrees _ _ (records t) (stands_is a b)

    found_is : found ≡ first (λ j. hits t a b (get_or all j 0)) (length all)
    unfolding matches_at
    found_is = ap (λ (l : List ℕ). first (λ j. hits t a b (get_or l j 0)) (length l)) S.is

    standing_finds : found < length standing → get_or standing found 0 ≡ sought
    standing_finds h =
        ap (λ (l : List ℕ). get_or l found 0) S.is
        ∙ which_finds (stands_at t x y) (hits t a b) (records t) found found_is (omega (arith, ap length S.is))
        ∙ sym sought_is

    standing_any : any (stands_in t x y (node x a b)) (records t) ≡ any (matches_at t standing a b) (length standing)
    standing_any = either_side found (length standing) there missing
      where
        there : found < length standing → ltb sought (records t) ≡ ltb found (length standing)
        there h =
            let e : get_or standing found 0 < records t = entry_below S found h in
            lt-ltb sought (records t) (omega (arith, standing_finds h)) ∙ sym (lt-ltb found (length standing) h)

        missing : length standing ≤ found → ltb sought (records t) ≡ ltb found (length standing)
        missing h =
            let s : first (λ j. stands_at t x y j && hits t a b j) (records t) ≡ records t =
            which_misses (stands_at t x y) (hits t a b) (records t) found found_is (omega (arith, ap length S.is)) in
            le-ltb sought (records t) (omega (arith, sought_is)) ∙ sym (le-ltb found (length standing) h)

    -- ---- one request

    pub pair_noted : (news : List Children) → nodes_of x (note_pair t standing news a b) ≡ noted t x y (nodes_of x news) (node x a b)
    unfolding note_pair noted is_new low_of high_of
    pair_noted news =
        go (eqb a b) (any (matches_at t standing a b) (length standing)) (any (new_at news (children a b)) (length news))
        ∙ sym (ap₂ (λ (v w : Bool). cond (not (eqb a b) && not v) (cond w (nodes_of x news) longer) (nodes_of x news)) standing_any new_any)
      where
        longer : List Node
        longer = nodes_of x news ++ (node x a b ∷ [])

        new_any : any (λ j. same (node x a b) (get_or (nodes_of x news) j free)) (length (nodes_of x news)) ≡ any (new_at news (children a b)) (length news)
        new_any = ap₂ ltb (new_first x news a b) (length_nodes x news)

        go : (u v w : Bool) → nodes_of x (cond u news (cond v news (cond w news (news ++ (children a b ∷ [])))))
            ≡ cond (not u && not v) (cond w (nodes_of x news) longer) (nodes_of x news)
        go true v w = refl
        go false true w = refl
        go false false true = refl
        go false false false = nodes_more x news (children a b)

    pub settled_in_lem : (news : List Children) (slots : List ℕ) → settled_at t standing news a b slots ≡ settled_in t x y slots (nodes_of x news) a b
    unfolding settled_at settled_in
    settled_in_lem news slots = ap (cond (eqb a b) a) (rw standing_any (go (by (any (matches_at t standing a b) (length standing)))))
      where
        place : ℕ
        place = first (new_at news (children a b)) (length news)

        go : (any (matches_at t standing a b) (length standing) ≡ true) ⊎ (any (matches_at t standing a b) (length standing) ≡ false)
            → cond (any (matches_at t standing a b) (length standing)) (get_or standing found 0 + 2) (slot_at slots place)
            ≡ ref (cond (any (matches_at t standing a b) (length standing)) sought (get_or slots (place_of (same (node x a b)) free (nodes_of x news)) 0))
        go (inl e) = rw e (two_more _ ∙ ap ref (standing_finds (ltb-true _ _ e)))
        go (inr e) = rw e (slot_is slots place ∙ ap (λ j. ref (get_or slots j 0)) (sym (new_first x news a b)))
