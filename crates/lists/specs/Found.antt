-- The least index below n at which a test holds, if there is one; and the laws of a loop that looks for it.
use Rattle.std.specs.Prelude.{ℕ, zero, suc, ◌+◌, ◌<◌, ◌≤◌, Bool, true, false, cond, ◌||◌, List, [], ◌∷◌, Option, Some, None, ◌≡◌, refl, ltb, length, get_or}
use Rattle.std.specs.List.{list_any}
use Rattle.std.proofs.Math.Dec.{leb-suc-suc}
use Rattle.std.proofs.Common.{ap, sym, ◌∙◌, subst, arith, lt-ltb, le-ltb, ltb-true, ltb-false, le_refl, zero-le, suc-le-suc, rules}
use Rattle.lists.specs.Apart.{apart}
use Rattle.lists.specs.First.{first, any, Passed, passed_none, passed_more, first_at, first_none, first_passed, first_holds, first_within, first_agrees}

-- the least index below n at which p holds, if there is one
unfoldable pub found : (ℕ → Bool) → ℕ → Option ℕ
found p n = cond (any p n) (Some (first p n)) None

-- what is found, or the number that stands for none: `first` in other words
abbrev pub found_or : Option ℕ → ℕ → ℕ
found_or (Some i) n = i
found_or None n = n

pub found_at : (p : ℕ → Bool) (n i : ℕ) → Passed p i → p i ≡ true → i < n → found p n ≡ Some i
unfolding found
found_at p n i h e l = rw (first_at p n i h e l, lt-ltb i n l) refl

pub found_none : (p : ℕ → Bool) (n : ℕ) → Passed p n → found p n ≡ None
unfolding found
found_none p n h = rw (first_none p n h, le-ltb n n (le_refl n)) refl

-- ---- what is found

pub found_first : (p : ℕ → Bool) (n : ℕ) → found_or (found p n) n ≡ first p n
unfolding found
found_first p n = go (any p n) refl
  where
    go : (b : Bool) → any p n ≡ b → found_or (cond b (Some (first p n)) None) n ≡ first p n
    go true e = refl
    go false e = let s : n ≡ first p n = omega (arith, ltb-false (first p n) n e, first_within p n) in s

pub some_found : {p : ℕ → Bool} {n i : ℕ} → found p n ≡ Some i → (i < n) × (p i ≡ true) × Passed p i × (i ≡ first p n)
unfolding found
some_found {p} {n} {i} h = go (any p n) refl h
  where
    go : (b : Bool) → any p n ≡ b → cond b (Some (first p n)) None ≡ Some i → (i < n) × (p i ≡ true) × Passed p i × (i ≡ first p n)
    go false e q = apart (cc)
    go true e q =
        let s : first p n ≡ i = cc in
        let l : first p n < n = ltb-true (first p n) n e in
        subst (λ k. (k < n) × (p k ≡ true) × Passed p k × (k ≡ first p n)) s (l, first_holds p n l, first_passed p n, refl)

pub none_found : {p : ℕ → Bool} {n : ℕ} → found p n ≡ None → Passed p n
unfolding found
none_found {p} {n} h = go (any p n) refl h
  where
    go : (b : Bool) → any p n ≡ b → cond b (Some (first p n)) None ≡ None → Passed p n
    go true e q = apart (cc)
    go false e q = record { at = λ i l. (first_passed p n).at i (omega (arith, ltb-false (first p n) n e)) }

-- two tests that agree below n
pub found_agrees : (p q : ℕ → Bool) (n : ℕ) → ((k : ℕ) → k < n → p k ≡ q k) → found p n ≡ found q n
unfolding found
found_agrees p q n e = ap (λ m. cond (ltb m n) (Some m) None) (first_agrees p q n e)

-- ---- whether a list has an element that passes
pub any_listed : (test : ℕ → Bool) (xs : List ℕ) → list_any test xs ≡ any (λ j. test (get_or xs j 0)) (length xs)
unfolding first
any_listed test [] = refl
any_listed test (x ∷ xs) = step (test x) (any_listed test xs)
  where
    step : (b : Bool) → list_any test xs ≡ any (λ j. test (get_or xs j 0)) (length xs)
        → (b || list_any test xs) ≡ ltb (cond b zero (suc (first (λ j. test (get_or xs j 0)) (length xs)))) (suc (length xs))
    step true e = sym (lt-ltb 0 (suc (length xs)) (suc-le-suc zero-le))
    step false e = e ∙ sym (leb-suc-suc (suc (first (λ j. test (get_or xs j 0)) (length xs))) (length xs))

-- ---- a loop that looks for the first index, at i of n: where it finds and ends. b is the flag that its body made of p i, and m is n under
-- another name, such as the code's own count
pub seek_goes : {p : ℕ → Bool} {i : ℕ} {b : Bool} → Passed p i → b ≡ p i → b ≡ false → Passed p (i + 1)
seek_goes h e q = passed_more h (sym e ∙ q)

pub seek_finds : {p : ℕ → Bool} {m n i : ℕ} {b : Bool} → Passed p i → i < m → b ≡ p i → b ≡ true → m ≡ n → Some i ≡ found p n
seek_finds {p} {m} {n} {i} h l e q z = sym (found_at p n i h (sym e ∙ q) (omega arith))

pub seek_ends : {p : ℕ → Bool} {m n i : ℕ} → Passed p i → m ≤ i → m ≡ n → None ≡ found p n
seek_ends {p} {m} {n} {i} h l z = sym (found_none p n (record { at = λ k q. h.at k (omega arith) }))

-- `search seek` answers every need of such a loop
pub ruleset seek = (passed_none, seek_goes, seek_finds, seek_ends, rules)
