-- The names counted in turn, by the roots and by the records of other variables than x: a y record without a name dies. An x record that names it
-- crosses, and so lets go of it.
use Rattle.std.specs.Prelude.{ℕ, ◌+◌, ◌*◌, ◌≤◌, ◌<◌, ◌&&◌, ◌||◌, List, ◌⊎◌, ◌≡◌, refl, ltb, length, get_or, set}
use Rattle.std.proofs.Math.Bool.{Bool, true, false, cond, not}
use Rattle.std.proofs.Common.{inl, inr, sym, ◌∙◌, arith, eqb-true, ne_eqb, length-set, get_or-set_same, get_or-set_other}
use Rattle.std.proofs.Math.Path.{ap}
use Rattle.std.proofs.lemmas.Bool.{eqb-false}
use Rattle.std.proofs.Math.Dec.{eqb}
use Rattle.std.proofs.Math.ListN.{get_or-eq_default}
use Rattle.lists.specs.First.{any, first_agrees}
use Rattle.lists.specs.Fold.{fold}
use Rattle.lists.specs.Says.{either_side}
use Rattle.lists.specs.Truth.{by, or_cases, or_true, or_false}
use Rattle.diagrams.specs.Edition.{plain}
use Rattle.diagrams.specs.Layout.{most_records, records, root_count, variable_at, low_at, high_at, is_free, is_used}
use Rattle.diagrams.specs.Node.{Node, free, node, at, ref, two_more}
use Rattle.diagrams.specs.Decode.{node_at, decode}
use Rattle.diagrams.specs.Lookup.{lookup, at_decode, node_of, roots_of, length_roots, root_is}
use Rattle.diagrams.specs.Noting.{root_names, no_notes, length_no_notes, no_note, roots_long, roots_has, records_long, records_has}
use Rattle.check_sizes.specs.Sizes.{TableSizes}
use Rattle.swap_rules.specs.Record.{low_of, high_of, is_free_node, is_of}
use Rattle.swap_rules.specs.Swap.{crosses, still_names, dies}
use Rattle.swap_records.specs.Kinds.{of_at, crosses_at}
use Rattle.swap_records.specs.declared.Pair.{Pair}
use Rattle.swap_names.specs.Naming.{named, named_root, named_by, named_other, unnamed}
use Rattle.swap_names.specs.Naming.{CountRoom, room_fold, two_of_root}

-- record i dies
abbrev pub dies_in : List ℕ → List ℕ → Pair → ℕ → Bool
dies_in t r p i = dies plain (at (decode t)) (records t) p.x.0 p.y.0 (roots_of r) (ref i)

-- the counts tell which y records die
pub record Counted (t r : List ℕ) (p : Pair) (names : List ℕ) : Type 0 where
  pub long : length names ≡ most_records + 2
  pub tell : (i : ℕ) → i < records t → (of_at t p.y.0 i && unnamed names i) ≡ dies_in t r p i

-- ---- a count that isn't 0 says that there is a name

abbrev has : List ℕ → ℕ → Bool
has l q = not (eqb (get_or l q 0) 0)

name_long : (l : List ℕ) (y : ℕ) → length (named l y) ≡ length l
unfolding named
name_long l y = simp length-set

name_has : (l : List ℕ) (y q : ℕ) → q < length l → has (named l y) q ≡ (has l q || eqb y q)
unfolding named
name_has l y q h = go (eqb y q) refl
  where
    go : (b : Bool) → eqb y q ≡ b → has (set l y (get_or l y 0 + 1)) q ≡ (has l q || b)
    go true e =
        let p : y ≡ q = eqb-true y q e in
        rw (p, get_or-set_same l q (get_or l q 0 + 1) 0 h, ne_eqb (get_or l q 0 + 1) 0 (λ z. omega arith)) (or_true (has l q))
    go false e = rw (get_or-set_other l y q (get_or l y 0 + 1) 0 (λ z. eqb-false y q e (sym z))) (or_false (has l q))

none_named : (q : ℕ) → get_or no_notes q 0 ≡ 0
none_named q = either_side q (most_records + 2) (no_note q) (λ h. get_or-eq_default no_notes 0 (rw length_no_notes h))

-- ---- the records that stay as they are

-- record i names q
abbrev says : List ℕ → ℕ → ℕ → Bool
says t q i = eqb (low_at t i) q || eqb (high_at t i) q

-- it stays as it is, and names q
abbrev keeps : List ℕ → ℕ → ℕ → ℕ → ℕ → Bool
keeps t x y q j = is_used t j && not (crosses_at t x y j) && says t q j

-- it is of another variable than x
abbrev other : List ℕ → ℕ → ℕ → Bool
other t x i = is_used t i && not (of_at t x i)

module _ (t : List ℕ) (x y : ℕ) where
  -- an x record that names a y record crosses
  crosses_named : (q j : ℕ) → j < records t → is_free t j ≡ false → is_of y (lookup t q) ≡ true → says t q j ≡ true → crosses_at t x y j ≡ of_at t x j
  unfolding crosses low_of high_of
  crosses_named q j h u e s =
      rw (node_of t j h (eqb-false (variable_at t j) 255 u)) (go (is_of x (node (variable_at t j) (low_at t j) (high_at t j))) (or_cases _ _ s))
    where
      low : eqb (low_at t j) q ≡ true → is_of y (lookup t (low_at t j)) ≡ true
      low z = ap (λ r. is_of y (lookup t r)) (eqb-true (low_at t j) q z) ∙ e

      high : eqb (high_at t j) q ≡ true → is_of y (lookup t (high_at t j)) ≡ true
      high z = ap (λ r. is_of y (lookup t r)) (eqb-true (high_at t j) q z) ∙ e

      go : (b : Bool) → (eqb (low_at t j) q ≡ true) ⊎ (eqb (high_at t j) q ≡ true)
          → (b && (is_of y (lookup t (low_at t j)) || is_of y (lookup t (high_at t j)))) ≡ b
      go true (inl z) = rw (low z)
      go true (inr z) = ap (λ v. is_of y (lookup t (low_at t j)) || v) (high z) ∙ sym (or_true (is_of y (lookup t (low_at t j))))
      go false w = refl

  -- what stays and names a y record is none of x
  kept_is : (q j : ℕ) → j < records t → is_of y (lookup t q) ≡ true → (other t x j && says t q j) ≡ keeps t x y q j
  kept_is q j h e = go (is_free t j) refl (says t q j) refl
    where
      go : (u : Bool) → is_free t j ≡ u → (s : Bool) → says t q j ≡ s → ((not u && not (of_at t x j)) && s) ≡ (not u && not (crosses_at t x y j) && s)
      go true f s z = refl
      go false f true z = ap (λ b. not b && true) (sym (crosses_named q j h f e z))
      go false f false z = none (not (of_at t x j)) (not (crosses_at t x y j))
        where
          none : (a b : Bool) → (a && false) ≡ (b && false)
          none true true = refl
          none true false = refl
          none false true = refl
          none false false = refl

  names_is : (q j : ℕ) → j < records t → still_names plain (at (decode t)) x y q j ≡ keeps t x y q j
  unfolding still_names node_at is_free_node low_of high_of
  names_is q j h = rw (at_decode t j h) (go (is_free t j))
    where
      m : Bool → Node
      m u = cond u free (node (variable_at t j) (low_at t j) (high_at t j))

      go : (u : Bool) → (not (is_free_node (m u)) && not (crosses (lookup t) x y (ref j)) && (eqb (low_of (m u)) q || eqb (high_of (m u)) q))
          ≡ (not u && not (crosses (lookup t) x y (ref j)) && says t q j)
      go true = refl
      go false = refl

  records_name : (q : ℕ) → any (still_names plain (at (decode t)) x y q) (records t) ≡ any (keeps t x y q) (records t)
  records_name q = ap (λ k. ltb k (records t)) (first_agrees _ _ (records t) (names_is q))

roots_name : (r : List ℕ) (q : ℕ) → any (λ k. eqb (get_or (roots_of r) k 0) q) (length (roots_of r)) ≡ any (root_names r q) (root_count r)
unfolding root_names
roots_name r q = rw (length_roots r) (ap (λ k. ltb k (root_count r)) (first_agrees _ _ (root_count r) (λ k h. ap (λ v. eqb v q) (root_is r k h))))

-- ---- the counts, one list after the other

module _ {t r : List ℕ} (sized : TableSizes t r) {l₀ : List ℕ} (none : l₀ ≡ no_notes) where
  room_first : (n : ℕ) → n ≤ 65535 → CountRoom l₀ n
  room_first n h = rw none (record { at = λ q. omega (arith, none_named q) })

  pub room_roots : CountRoom l₀ (2 * root_count r)
  room_roots = room_first (2 * root_count r) (omega (arith, sized.few_roots))

  module _ {l₁ : List ℕ} (roots : l₁ ≡ fold (named_root r) l₀ (root_count r)) where
    room_then : (n : ℕ) → n ≤ 4 * most_records → CountRoom l₁ n
    room_then n h = rw roots (room_fold (two_of_root r) l₀ (root_count r) n (room_first (n + 2 * root_count r) (omega (arith, sized.few_roots))))

    pub room_others : CountRoom l₁ (2 * records t)
    room_others = room_then (2 * records t) (omega (arith, sized.few_records))

    long₁ : length l₁ ≡ most_records + 2
    unfolding named_root
    long₁ = rw (roots, none) (roots_long named has name_long name_has r no_notes (root_count r) ∙ length_no_notes)

    say₁ : (q : ℕ) → q < most_records + 2 → has l₁ q ≡ any (root_names r q) (root_count r)
    unfolding named_root
    say₁ q h =
        rw (roots, none) (roots_has named has name_long name_has r no_notes (root_count r) q (rw length_no_notes h))
        ∙ ap (λ v. not (eqb v 0) || any (root_names r q) (root_count r)) (none_named q)

    module _ (p : Pair) {l₂ : List ℕ} (others : l₂ ≡ fold (named_other t p.x.0) l₁ (records t)) where
      abbrev x : ℕ
      x = p.x.0

      abbrev y : ℕ
      y = p.y.0

      long₂ : length l₂ ≡ most_records + 2
      unfolding named_other named_by
      long₂ = rw others (records_long named has name_long name_has t (other t x) l₁ (records t) ∙ long₁)

      say₂ : (q : ℕ) → q < most_records + 2 → has l₂ q ≡ (any (root_names r q) (root_count r) || any (λ i. other t x i && says t q i) (records t))
      unfolding named_other named_by
      say₂ q h =
          rw others (records_has named has name_long name_has t (other t x) l₁ (records t) q (rw long₁ h))
          ∙ ap (λ b. b || any (λ i. other t x i && says t q i) (records t)) (say₁ q h)

      -- of a y record
      say_y : (q : ℕ) → q < most_records + 2 → is_of y (lookup t q) ≡ true → has l₂ q ≡ (any (root_names r q) (root_count r) || any (keeps t x y q) (records t))
      say_y q h e =
          say₂ q h
          ∙ ap (λ k. any (root_names r q) (root_count r) || ltb k (records t)) (first_agrees _ _ (records t) (λ j b. kept_is t x y q j b e))

      pub counted : Counted t r p l₂
      unfolding unnamed dies
      counted = record { long = long₂; tell = λ i h. told i h (by (of_at t y i)) }
        where
          turned : (a b : Bool) → not a ≡ b → a ≡ not b
          turned true b e = rw (← e)
          turned false b e = rw (← e)

          go : (u v w : Bool) → (u && not (v || w)) ≡ (u && not v && not w)
          go true true w = refl
          go true false w = refl
          go false v w = refl

          told : (i : ℕ) → i < records t → (of_at t y i ≡ true) ⊎ (of_at t y i ≡ false) → (of_at t y i && unnamed l₂ i) ≡ dies_in t r p i
          told i h (inl e) =
              ap (λ b. of_at t y i && b) (turned _ _ (say_y (i + 2) (omega (arith, sized.few_records)) (rw two_more e)))
              ∙ rw (two_more i, roots_name r (ref i), records_name t x y (ref i))
              (go (of_at t y i) (any (root_names r (ref i)) (root_count r)) (any (keeps t x y (ref i)) (records t)))
          told i h (inr f) = rw f
