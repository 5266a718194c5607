-- Laws of what specs/Labelled.antt defines.
use Rattle.std.specs.Prelude.{ℕ, ◌*◌, ◌%◌, ◌≤◌, ◌<◌, Bool, true, false, cond, ◌||◌, List, ◌⊎◌, ◌≡◌, refl, length, get_or}
use Rattle.std.specs.Prelude.{Option, Some, None}
use Rattle.std.proofs.Common.{inl, inr, ⊎_elim, ap, sym, ◌∙◌, arith}
use Rattle.std.specs.Option.{option_map}
use Rattle.lists.specs.Found.{some_found, none_found}
use Rattle.lists.specs.Says.{Says, says, says_eqb, says_leb, refutes, stable, either_side}
use Rattle.parts.specs.Part.{Inside}
use Rattle.parts.specs.Lent.{nothing_inside}
use Rattle.parts.specs.declared.Part.{Part}
use Rattle.labels.specs.declared.Place.{Place}
use Rattle.labels.specs.declared.Place.TheVariants.{Nowhere, Site, Factory}
use Rattle.labels.specs.Label.{label_size, most_labels, bad_length, label_count, InLabels, names, text_part, first_for, place_of, label_of}
use Rattle.labels.specs.Label.{chosen, part_in}
use Rattle.labels.specs.Labelled.{FirstFor, FromFactory, FromSite, Means, RightLength, Unlabelled, Unnamed, site_wrong, factory_wrong, neither}

-- a record that is found lies in its list
pub found_inside : (l : List ℕ) (v : ℕ) {i : ℕ} → Some i ≡ first_for l v → InLabels l i
found_inside l v h = omega (arith, (some_found (sym h)).0)

-- ---- what the tests say

length_says : (l : List ℕ) → Says (bad_length l) ((length l % label_size ≡ 0 → ⊥) ⊎ (label_size * most_labels < length l))
unfolding bad_length
length_says l = search says

right_length : (l : List ℕ) → bad_length l ≡ false → RightLength l
right_length l e =
    let n = refutes (length_says l) e in
    record {
      whole = stable (says_eqb _ _) (λ h. n (inl h));
      few = stable (says_leb _ _) (λ h. n (inr (omega arith)));
    }

wrong_length : (l : List ℕ) → bad_length l ≡ true → RightLength l → ⊥
wrong_length l e r = ⊎_elim (λ h. h r.whole) (λ h. omega (arith, r.few)) ((length_says l).yes e)

names_says : (l : List ℕ) (v i : ℕ) → Says (names l v i) (get_or l (label_size * i) 0 ≡ v)
unfolding names
names_says l v i = says_eqb _ _

first_for_lem : (l : List ℕ) (v : ℕ) {i : ℕ} → first_for l v ≡ Some i → FirstFor l v i
first_for_lem l v {i} h =
    let (inside, holds, passed, same) = some_found h in
    record {
      itself = record { inside = inside; is = (names_says l v i).yes holds };
      before = λ j k r. refutes (names_says l v j) (passed.at j k) r.is;
    }

none_for : (l : List ℕ) (v : ℕ) → first_for l v ≡ None → Unnamed l v
none_for l v h i r = refutes (names_says l v i) ((none_found h).at i r.inside) r.is

pub text_inside : (l : List ℕ) {i : ℕ} → i < label_count l → Inside (text_part i) l
text_inside l h = record { begins = omega arith; ends = omega arith }

-- only one record is the first
first_one : {l : List ℕ} {v i j : ℕ} → FirstFor l v i → FirstFor l v j → i ≡ j
first_one {i = i} {j = j} p q =
    either_side i j (λ h. absurd (q.before i h p.itself)) (λ h. either_side j i (λ k. absurd (p.before j k q.itself)) (λ k. omega arith))

module _ (s f : List ℕ) (v : ℕ) where
  pub means : Means s f v (label_of s f v)
  unfolding label_of
  means = go (bad_length s) (bad_length f) (first_for s v) (first_for f v) refl refl refl refl
    where
      go : (a b : Bool) (i j : Option ℕ) → bad_length s ≡ a → bad_length f ≡ b → first_for s v ≡ i → first_for f v ≡ j
          → Means s f v (cond (a || b) Nowhere (place_of (option_map text_part i) (option_map text_part j)))
      go true b i j p q d e = site_wrong (wrong_length s p)
      go false true i j p q d e = factory_wrong (wrong_length f q)
      go false false (Some i) j p q d e = (i, (record { right = (right_length s p, right_length f q); first = first_for_lem s v d }, refl))
      go false false None (Some j) p q d e =
          (j, (record { right = (right_length s p, right_length f q); unnamed = none_for s v d; first = first_for_lem f v e }, refl))
      go false false None None p q d e = neither (none_for s v d) (none_for f v e)

  -- ---- no two places mean what holds

  -- right lengths and a record for the variable in one of the lists
  not_unlabelled : RightLength s × RightLength f → (Unnamed s v → Unnamed f v → ⊥) → Unlabelled s f v → ⊥
  not_unlabelled r n (site_wrong h) = h r.0
  not_unlabelled r n (factory_wrong h) = h r.1
  not_unlabelled r n (neither h k) = n h k

  not_site : {i : ℕ} → FromSite s f v i → Unlabelled s f v → ⊥
  not_site w = not_unlabelled w.right (λ h k. h _ w.first.itself)

  not_factory : {i : ℕ} → FromFactory s f v i → Unlabelled s f v → ⊥
  not_factory w = not_unlabelled w.right (λ h k. k _ w.first.itself)

  not_both : {i j : ℕ} → FromSite s f v i → FromFactory s f v j → ⊥
  not_both w u = u.unnamed _ w.first.itself

  one_part : {l : List ℕ} {i j : ℕ} {p q : Part} → FirstFor l v i → FirstFor l v j → p ≡ text_part i → q ≡ text_part j → p ≡ q
  one_part a b e g = e ∙ ap text_part (first_one a b) ∙ sym g

  one_place : (p q : Place) → Means s f v p → Means s f v q → p ≡ q
  one_place Nowhere Nowhere m w = refl
  one_place Nowhere (Site q) m (j, (w, g)) = absurd (not_site w m)
  one_place Nowhere (Factory q) m (j, (w, g)) = absurd (not_factory w m)
  one_place (Site p) Nowhere (i, (u, e)) w = absurd (not_site u w)
  one_place (Site p) (Site q) (i, (u, e)) (j, (w, g)) = ap Site (one_part u.first w.first e g)
  one_place (Site p) (Factory q) (i, (u, e)) (j, (w, g)) = absurd (not_both u w)
  one_place (Factory p) Nowhere (i, (u, e)) w = absurd (not_factory u w)
  one_place (Factory p) (Site q) (i, (u, e)) (j, (w, g)) = absurd (not_both w u)
  one_place (Factory p) (Factory q) (i, (u, e)) (j, (w, g)) = ap Factory (one_part u.first w.first e g)

  -- ---- so the label's place is the one that means what holds, and no other

  pub place_if : (p : Place) → Means s f v p → label_of s f v ≡ p
  place_if p m = one_place (label_of s f v) p means m

  pub place_only : (p : Place) → label_of s f v ≡ p → Means s f v p
  place_only p e = rw e at means

  -- ---- where the text stands: in the list that has the label, and in the longest one

  means_inside : (p : Place) → Means s f v p → Inside (part_in p) (chosen p s f)
  means_inside Nowhere m = nothing_inside
  means_inside (Site p) (i, (w, e)) = rw e (text_inside s w.first.itself.inside)
  means_inside (Factory p) (i, (w, e)) = rw e (text_inside f w.first.itself.inside)

  pub place_inside : Inside (part_in (label_of s f v)) (chosen (label_of s f v) s f)
  place_inside = means_inside (label_of s f v) means

  means_small : (p : Place) → Means s f v p → (part_in p).1 ≤ label_size * most_labels
  means_small Nowhere m = omega arith
  means_small (Site p) (i, (w, e)) = rw e (omega (arith, w.first.itself.inside, w.right.0.few))
  means_small (Factory p) (i, (w, e)) = rw e (omega (arith, w.first.itself.inside, w.right.1.few))

  pub place_small : (part_in (label_of s f v)).1 ≤ label_size * most_labels
  place_small = means_small (label_of s f v) means
