-- Where a number stands in a list of different numbers, and how many stand before a place of it.
use Rattle.std.specs.Prelude.{ℕ, zero, suc, ◌+◌, ◌≤◌, ◌<◌, false, List, ◌≡◌, refl, eqb, ltb, length, get_or}
use Rattle.std.proofs.Common.{⊎_elim, ap, sym, ◌∙◌, arith, lt-ltb, le-ltb, eqb-true, eq-eqb, ne_eqb}
use Rattle.lists.specs.Count.{bit, count, count_both}
use Rattle.lists.specs.First.{first, first_only, first_holds}
use Rattle.lists.specs.Mem.{Mem, Apart, at_mem, apart_at}
use Rattle.lists.specs.Says.{says_eqb, says_ltb, decided}
use Rattle.lists.specs.Total.{count_one, count_none}

-- where i first stands in l
abbrev pub place_in : List ℕ → ℕ → ℕ
place_in l i = first (λ j. eqb (get_or l j 0) i) (length l)

-- a number below n is one of them
count_single : (a n : ℕ) → a < n → count (eqb a) n ≡ 1
count_single a n h =
    sym (count_one (eqb a) (λ i. false) n a h (eq-eqb a a refl) refl (λ k l d. sym (ne_eqb a k (λ z. d (sym z)))))
    ∙ ap suc (count_none (λ i. false) n (λ k l. refl))

-- i stands before place m + 1 where it stands before place m, or at m
abbrev OneMore : List ℕ → ℕ → ℕ → Type 0
OneMore l i m = bit (ltb (place_in l i) (suc m)) + bit false ≡ bit (ltb (place_in l i) m) + bit (eqb (get_or l m 0) i)

module _ (l : List ℕ) (apart : Apart l) where
  pub place_at_lem : (m : ℕ) → m < length l → place_in l (get_or l m 0) ≡ m
  place_at_lem m h = first_only _ (length l) m h (eq-eqb (get_or l m 0) (get_or l m 0) refl) (λ j q e. apart_at l j m 0 apart q h (eqb-true _ _ e))

  pub at_place : (i m : ℕ) → m < length l → place_in l i ≡ m → get_or l m 0 ≡ i
  at_place i m h e = ap (λ (j : ℕ). get_or l j 0) (sym e) ∙ eqb-true _ _ (first_holds (λ j. eqb (get_or l j 0) i) (length l) (omega arith))

  one_more : (i m : ℕ) → m < length l → OneMore l i m
  one_more i m h = ⊎_elim same (λ d. ⊎_elim (less d) (more d) (decided (says_ltb (place_in l i) m))) (decided (says_eqb (place_in l i) m))
    where
      other : (place_in l i ≡ m → ⊥) → eqb (get_or l m 0) i ≡ false
      other d = ne_eqb _ _ (λ z. d (ap (place_in l) (sym z) ∙ place_at_lem m h))

      same : place_in l i ≡ m → OneMore l i m
      same e = rw (lt-ltb (place_in l i) (suc m) (omega arith), le-ltb (place_in l i) m (omega arith), eq-eqb _ _ (at_place i m h e))

      less : (place_in l i ≡ m → ⊥) → place_in l i < m → OneMore l i m
      less d q = rw (lt-ltb (place_in l i) (suc m) (omega arith), lt-ltb (place_in l i) m q, other d)

      more : (place_in l i ≡ m → ⊥) → (place_in l i < m → ⊥) → OneMore l i m
      more d q = rw (le-ltb (place_in l i) (suc m) (omega arith), le-ltb (place_in l i) m (omega arith), other d)

  -- m of the numbers below n stand before place m
  pub count_places : (n : ℕ) → ((i : ℕ) → Mem i l → i < n) → (m : ℕ) → m ≤ length l → count (λ i. ltb (place_in l i) m) n ≡ m
  count_places n small zero h = count_none _ n (λ i q. le-ltb (place_in l i) 0 (omega arith))
  count_places n small (suc m) h =
      let a : get_or l m 0 < n = small (get_or l m 0) (at_mem l m 0 (omega arith)) in
      let b =
      count_both (λ i. ltb (place_in l i) (suc m)) (λ i. false) (λ i. ltb (place_in l i) m) (eqb (get_or l m 0)) n (λ i q. one_more i m (omega arith)) in
      omega (arith, count_places n small m (omega arith), count_single (get_or l m 0) n a, count_none (λ i. false) n (λ i q. refl))
