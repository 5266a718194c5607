-- The indices that pass, by their ranks: each stands after as many as pass before it; and what a search among them finds.
use Rattle.std.specs.Prelude.{ℕ, zero, suc, ◌≤◌, ◌<◌, Bool, true, cond, ◌&&◌, [], ◌∷◌, ◌++◌, ◌≡◌, length, get_or}
use Rattle.std.proofs.Common.{ap, sym, ◌∙◌, not-suc-le-zero, arith}
use Rattle.std.proofs.Math.ListN.{get_or-append}
use Rattle.std.proofs.lemmas.List.{get_or_at}
use Rattle.lists.specs.First.{first, Passed, first_at, first_none, first_passed, first_holds}
use Rattle.lists.specs.Count.{count}
use Rattle.lists.specs.Mem.{at_mem, apart_at}
use Rattle.lists.specs.Says.{Says, says_and, says_itself, denies, either_side, true_false}
use Rattle.lists.specs.Which.{which, which_mem, which_apart, which_length}

-- ---- how many pass before an index that passes

pub count_before : (p : ℕ → Bool) (n i : ℕ) → i < n → p i ≡ true → count p i < count p n
unfolding count
count_before p zero i h t = absurd (not-suc-le-zero h)
count_before p (suc n) i h t =
    either_side i n
    (λ l. omega (arith, count_before p n i l t))
    (λ l. let z : i ≡ n = omega arith in rw (sym (ap p z) ∙ t) (omega (arith, ap (count p) z)))

which_below : (p : ℕ → Bool) (n i : ℕ) → i < n → p i ≡ true → count p i < length (which p n)
which_below p n i h t = omega (arith, count_before p n i h t, which_length p n)

-- ---- what stands where

pub which_at : (p : ℕ → Bool) (n k : ℕ) → k < length (which p n) → (get_or (which p n) k 0 < n) × (p (get_or (which p n) k 0) ≡ true)
which_at p n k h = which_mem p n (get_or (which p n) k 0) (at_mem (which p n) k 0 h)

which_get_d : (p : ℕ → Bool) (n i : ℕ) → i < n → p i ≡ true → get_or (which p n) (count p i) 0 ≡ i
unfolding which
which_get_d p zero i h t = absurd (not-suc-le-zero h)
which_get_d p (suc n) i h t =
    either_side i n
    (λ l. get_or-append (which p n) _ 0 (count p i) (which_below p n i l t) ∙ which_get_d p n i l t)
    (λ l. last (omega arith))
  where
    last : i ≡ n → get_or (which p n ++ cond (p n) (n ∷ []) []) (count p i) 0 ≡ i
    last z = rw (sym (ap p z) ∙ t) (get_or_at (which p n) n [] 0 (count p i) (which_length p n ∙ ap (count p) (sym z)) ∙ sym z)

which_rank : (p : ℕ → Bool) (n k : ℕ) → k < length (which p n) → count p (get_or (which p n) k 0) ≡ k
which_rank p n k h =
    let r = which_at p n k h in
    apart_at (which p n) _ k 0 (which_apart p n) (which_below p n _ r.0 r.1) h (which_get_d p n _ r.0 r.1)

-- ---- searching among the indices that pass is searching among all

both : (a b : Bool) → Says (a && b) ((a ≡ true) × (b ≡ true))
both a b = says_and a b (a ≡ true) (b ≡ true) (says_itself a) (says_itself b)

module _ (p q : ℕ → Bool) (n k : ℕ) (at_first : k ≡ first (λ j. q (get_or (which p n) j 0)) (length (which p n))) where
  -- what passes both stands no earlier than the search came
  not_before : (i : ℕ) → i < n → (p i ≡ true) × (q i ≡ true) → count p i < k → ⊥
  not_before i h w l = true_false (sym w.1 ∙ ap q (sym (which_get_d p n i h w.0)) ∙ passed.at (count p i) (omega arith))
    where
      passed : Passed (λ j. q (get_or (which p n) j 0)) (first (λ j. q (get_or (which p n) j 0)) (length (which p n)))
      passed = first_passed (λ j. q (get_or (which p n) j 0)) (length (which p n))

  pub which_finds : k < length (which p n) → get_or (which p n) k 0 ≡ first (λ i. p i && q i) n
  which_finds h = sym (first_at (λ i. p i && q i) n (get_or (which p n) k 0) (record { at = λ i l. denies (both (p i) (q i)) (earlier i l) }) found r.0)
    where
      r : (get_or (which p n) k 0 < n) × (p (get_or (which p n) k 0) ≡ true)
      r = which_at p n k h

      holds : q (get_or (which p n) k 0) ≡ true
      holds = ap (λ j. q (get_or (which p n) j 0)) at_first ∙ first_holds (λ j. q (get_or (which p n) j 0)) (length (which p n)) (omega arith)

      found : (p (get_or (which p n) k 0) && q (get_or (which p n) k 0)) ≡ true
      found = (both _ _).no (r.1, holds)

      earlier : (i : ℕ) → i < get_or (which p n) k 0 → (p i ≡ true) × (q i ≡ true) → ⊥
      earlier i l w = not_before i (omega (arith, r.0)) w (omega (arith, count_before p (get_or (which p n) k 0) i l w.0, which_rank p n k h))

  pub which_misses : length (which p n) ≤ k → first (λ i. p i && q i) n ≡ n
  which_misses h = first_none (λ i. p i && q i) n (record { at = λ i l. denies (both (p i) (q i)) (λ w. not_before i l w (below i l w.0)) })
    where
      below : (i : ℕ) → i < n → p i ≡ true → count p i < k
      below i l t = omega (arith, which_below p n i l t)
