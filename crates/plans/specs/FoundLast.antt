-- The greatest index below n at which a test holds, if there is one.
use Rattle.std.specs.Prelude.{ℕ, zero, suc, ◌<◌, Bool, true, false, cond, Option, Some, None, ◌≡◌, refl}
use Rattle.std.proofs.Common.{sym, ◌∙◌, le_refl, add-one, arith}
use Rattle.lists.specs.Apart.{apart}
use Rattle.lists.specs.First.{Passed, passed_none, passed_more}
use Rattle.lists.specs.Last.{last, last_at, last_before}

-- the greatest index below n at which p holds, if there is one
unfoldable pub found_last : (ℕ → Bool) → ℕ → Option ℕ
found_last p zero = None
found_last p (suc n) = cond (p n) (Some n) (found_last p n)

pub found_last_zero : (p : ℕ → Bool) → found_last p zero ≡ None
unfolding found_last
found_last_zero p = refl

pub found_last_at : (p : ℕ → Bool) (n : ℕ) → p n ≡ true → found_last p (suc n) ≡ Some n
unfolding found_last
found_last_at p n e = rw e

pub found_last_before : (p : ℕ → Bool) (n : ℕ) → p n ≡ false → found_last p (suc n) ≡ found_last p n
unfolding found_last
found_last_before p n e = rw e

-- ---- what is found

pub some_last : (p : ℕ → Bool) (n : ℕ) {i : ℕ} → found_last p n ≡ Some i → (i < n) × (p i ≡ true) × (i ≡ last p n)
unfolding found_last
some_last p zero h = apart (cc)
some_last p (suc n) {i} h = by (p n) refl h (λ j q. some_last p n q)
  where
    by : (b : Bool) → p n ≡ b → cond b (Some n) (found_last p n) ≡ Some i
        → ((j : ℕ) → found_last p n ≡ Some j → (j < n) × (p j ≡ true) × (j ≡ last p n)) → (i < suc n) × (p i ≡ true) × (i ≡ last p (suc n))
    by true e q f = let s : n ≡ i = cc in rw (← s) (le_refl (suc n), e, sym (last_at p n e))
    by false e q f = let w = f i q in (omega (arith, w.0), w.1, w.2 ∙ sym (last_before p n e))

pub none_last : (p : ℕ → Bool) (n : ℕ) → found_last p n ≡ None → Passed p n
unfolding found_last
none_last p zero h = passed_none
none_last p (suc n) h = by (p n) refl h (none_last p n)
  where
    by : (b : Bool) → p n ≡ b → cond b (Some n) (found_last p n) ≡ None → (found_last p n ≡ None → Passed p n) → Passed p (suc n)
    by true e q f = apart (cc)
    by false e q f = rw add-one at (passed_more (f q) e)
