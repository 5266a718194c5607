-- A list that another one begins with: what is found in it is found at the same place in the other.
use Rattle.std.specs.Prelude.{ℕ, ◌≤◌, ◌<◌, Bool, true, false, cond, List, [], ◌∷◌, ◌++◌, ◌≡◌, refl, length, get_or}
use Rattle.std.proofs.Common.{append_assoc, append-nil, ap, sym, ◌∙◌, arith, ltb-true, ltb-false, length-append}
use Rattle.std.proofs.Math.ListN.{get_or-append}
use Rattle.std.proofs.lemmas.List.{get_or_at}
use Rattle.lists.specs.First.{first, any, first_at, first_passed, first_holds, first_within}

-- m begins with l
pub record Begins {A : Type 0} (l m : List A) : Type 0 where
  pub rest : List A
  pub is : m ≡ l ++ rest

module _ {A : Type 0} where
  pub begins_itself : (l : List A) → Begins l l
  begins_itself l = record { rest = []; is = sym (append-nil l) }

  pub begins_more : (l k : List A) → Begins l (l ++ k)
  begins_more l k = record { rest = k; is = refl }

  pub begins_on : {l m n : List A} → Begins l m → Begins m n → Begins l n
  begins_on {l} b c = record { rest = b.rest ++ c.rest; is = c.is ∙ ap (λ (k : List A). k ++ c.rest) b.is ∙ append_assoc l b.rest c.rest }

  module _ (p : A → Bool) (d : A) where
    -- where the first element stands that passes; the length where none does
    abbrev pub place_of : List A → ℕ
    place_of l = first (λ j. p (get_or l j d)) (length l)

    place_before : (l k : List A) (j : ℕ) → j < place_of l → p (get_or (l ++ k) j d) ≡ false
    place_before l k j h =
        ap p (get_or-append l k d j (omega (arith, first_within (λ i. p (get_or l i d)) (length l))))
        ∙ (first_passed (λ i. p (get_or l i d)) (length l)).at j h

    -- an element that is found stays where it is
    place_kept : {l m : List A} → Begins l m → place_of l < length l → place_of m ≡ place_of l
    place_kept {l} b h =
        rw b.is
        (first_at _ (length (l ++ b.rest)) (place_of l) (record { at = place_before l b.rest })
        (ap p (get_or-append l b.rest d (place_of l) h) ∙ first_holds (λ i. p (get_or l i d)) (length l) h)
        (omega (arith, length-append l b.rest)))

    -- one that is not found goes to the end, and is found there
    place_pushed : (l : List A) (w : A) → p w ≡ true → length l ≤ place_of l → place_of (l ++ (w ∷ [])) ≡ place_of l
    place_pushed l w e h =
        let z : length l ≡ place_of l = omega (arith, first_within (λ i. p (get_or l i d)) (length l)) in
        first_at _ (length (l ++ (w ∷ []))) (place_of l) (record { at = place_before l (w ∷ []) })
        (ap p (get_or_at l w [] d (place_of l) z) ∙ e)
        (omega (arith, length-append l (w ∷ [])))

    -- so where w is looked for, and put to the end if it isn't there, it is found in whatever the list becomes
    pub place_settled : (l : List A) (w : A) {m : List A} → p w ≡ true → Begins (cond (any (λ j. p (get_or l j d)) (length l)) l (l ++ (w ∷ []))) m
        → place_of m ≡ place_of l
    place_settled l w {m} e = go (any (λ j. p (get_or l j d)) (length l)) refl
      where
        go : (u : Bool) → any (λ j. p (get_or l j d)) (length l) ≡ u → Begins (cond u l (l ++ (w ∷ []))) m → place_of m ≡ place_of l
        go true q b = place_kept b (ltb-true _ _ q)
        go false q b =
            let z : place_of (l ++ (w ∷ [])) ≡ place_of l = place_pushed l w e (ltb-false _ _ q) in
            place_kept b (omega (arith, first_within (λ i. p (get_or l i d)) (length l), length-append l (w ∷ []))) ∙ z
