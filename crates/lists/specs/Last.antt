-- The greatest index below n at which a test holds, 0 where it holds at none.
use Rattle.std.specs.Prelude.{ℕ, zero, suc, ◌<◌, Bool, true, false, cond, ◌≡◌, refl}
use Rattle.std.proofs.Common.{ap, ap₂, ◌∙◌, le_refl, not-suc-le-zero, arith}
use Rattle.lists.specs.Says.{either_side}
use Rattle.lists.specs.Truth.{clash}

-- the greatest index below n at which p holds; 0 where there is none
unfoldable pub last : (ℕ → Bool) → ℕ → ℕ
last p zero = zero
last p (suc n) = cond (p n) n (last p n)

pub last_at : (p : ℕ → Bool) (n : ℕ) → p n ≡ true → last p (suc n) ≡ n
unfolding last
last_at p n e = rw e

pub last_before : (p : ℕ → Bool) (n : ℕ) → p n ≡ false → last p (suc n) ≡ last p n
unfolding last
last_before p n e = rw e

-- an index of which the test holds: there is none where p fails everywhere
pub record Found (p : ℕ → Bool) (n x : ℕ) : Type 0 where
  pub below : x < n
  pub holds : p x ≡ true

pub last_found : (p : ℕ → Bool) (n k : ℕ) → k < n → p k ≡ true → Found p n (last p n)
last_found p zero k l t = absurd (not-suc-le-zero l)
last_found p (suc n) k l t = by (p n) refl (λ m. last_found p n k m t)
  where
    by : (b : Bool) → p n ≡ b → (k < n → Found p n (last p n)) → Found p (suc n) (last p (suc n))
    by true e h = rw (last_at p n e) (record { below = le_refl (suc n); holds = e })
    by false e h =
        let d : k ≡ n → ⊥ = λ q. clash t (ap p q ∙ e) in
        let w = h (omega arith) in
        rw (last_before p n e) (record { below = omega (arith, w.below); holds = w.holds })

-- after it p fails
pub last_passed : (p : ℕ → Bool) (n j : ℕ) → last p n < j → j < n → p j ≡ false
last_passed p zero j l m = absurd (not-suc-le-zero m)
last_passed p (suc n) j l m = by (p n) refl (last_passed p n j)
  where
    by : (b : Bool) → p n ≡ b → (last p n < j → j < n → p j ≡ false) → p j ≡ false
    by true e h = absurd (let q = last_at p n e in omega arith)
    by false e h = either_side j n (h (rw (last_before p n e) at l)) (λ r. let q : j ≡ n = omega arith in ap p q ∙ e)

-- two tests that agree below n
pub last_agrees : (p q : ℕ → Bool) (n : ℕ) → ((k : ℕ) → k < n → p k ≡ q k) → last p n ≡ last q n
unfolding last
last_agrees p q zero e = refl
last_agrees p q (suc n) e = ap₂ (λ b m. cond b n m) (e n (le_refl (suc n))) (last_agrees p q n (λ k l. e k (omega arith)))
