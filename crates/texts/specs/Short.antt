-- How long the texts are at most, and that the fewest digits that hold a number are its decimal digits.
use Rattle.std.specs.Prelude.{ℕ, zero, suc, ◌+◌, ◌*◌, ◌-◌, ◌/◌, ◌%◌, ◌^◌, ◌≤◌, ◌<◌, Bool, true, false, cond, List, [], ◌∷◌, ◌++◌, ◌≡◌, refl, T, ltb, leb, length}
use Rattle.std.proofs.Common.{zero-le, suc-le-suc, ap, sym, ◌∙◌, le_refl, le_trans, lt_of_lt_of_le, not-suc-le-zero, not-le_of_lt, mul-suc, arith, lt-ltb, le-ltb, leb→le, lit<, lit≤, length-append, length-take}
use Rattle.std.proofs.Math.Nat.{pow-le-pow_right}
use Rattle.io.specs.Digits.{last_digits, IsDigitCount, hex_digit_ascii}
use Rattle.lists.specs.First.{first, Passed, first_at, first_passed, first_within}
use Rattle.lists.specs.Says.{either_side, true_false}
use Rattle.texts.specs.Text.{places, decimal, numbered, before_zero, in_turn}

-- ---- a number's digits

length_digits : (b k n : ℕ) → length (last_digits b k n) ≡ k
length_digits b zero n = refl
length_digits b (suc k) n = omega (arith, length-append (last_digits b k (n / b)) (hex_digit_ascii (n % b) ∷ []), length_digits b k (n / b))

decimal_long : (n : ℕ) → length (decimal n) ≡ places n
unfolding decimal
decimal_long n = length_digits 10 (places n) n

places_few : (n k : ℕ) → n < 10 ^ suc k → places n ≤ suc k
unfolding places
places_few n k h =
    either_side k (first (λ j. ltb n (10 ^ suc j)) 20)
    (λ l. true_false (sym (lt-ltb n (10 ^ suc k) h) ∙ (first_passed (λ j. ltb n (10 ^ suc j)) 20).at k l))
    (λ l. suc-le-suc l)

places_most : (n : ℕ) → places n ≤ 21
unfolding places
places_most n = suc-le-suc (first_within (λ k. ltb n (10 ^ suc k)) 20)

power_grows : {i j : ℕ} → i ≤ j → 10 ^ i ≤ 10 ^ j
power_grows h = pow-le-pow_right (lit< tt) h

pub decimal_is : (n k : ℕ) → n < 2 ^ 64 → IsDigitCount 10 1 n k → last_digits 10 k n ≡ decimal n
unfolding decimal places
decimal_is n zero b f = absurd (not-suc-le-zero f.0)
decimal_is n (suc j) b f = ap (λ k. last_digits 10 (suc k) n) (sym (first_at (λ k. ltb n (10 ^ suc k)) 20 j passed (lt-ltb n (10 ^ suc j) f.1) small))
  where
    needed : 0 < j → 10 ^ j ≤ n
    needed l = let e : suc j - 1 ≡ j = omega arith in rw e at (f.2 (omega arith))

    passed : Passed (λ k. ltb n (10 ^ suc k)) j
    passed = record { at = λ i l. le-ltb n (10 ^ suc i) (le_trans (power_grows l) (needed (omega arith))) }

    small : j < 20
    small = either_side j 20 (λ l. l) (λ l. absurd (not-le_of_lt (lt_of_lt_of_le b (lit≤ tt)) (le_trans (power_grows l) (needed (omega arith)))))

-- ---- texts of at most m bytes

pub record Short (text : List ℕ) (m : ℕ) : Type 0 where
  pub most : length text ≤ m

pub short : {t : List ℕ} {m : ℕ} → length t ≤ m → Short t m
short h = record { most = h }

pub both_short : {t u : List ℕ} {m n : ℕ} → Short t m → Short u n → Short (t ++ u) (m + n)
both_short {t} {u} p q = short (omega (arith, length-append t u, p.most, q.most))

pub shorter : {t : List ℕ} {m : ℕ} (n : ℕ) → Short t m → T (leb m n) → Short t n
shorter {t} {m} n p h = short (le_trans p.most (leb→le m n h))

pub either_short : {x y : List ℕ} {m : ℕ} (b : Bool) → Short x m → Short y m → Short (cond b x y) m
either_short true p q = p
either_short false p q = q

pub turns_short : (f : ℕ → List ℕ) (n m : ℕ) → ((k : ℕ) → k < n → Short (f k) m) → Short (in_turn f n) (m * n)
unfolding in_turn
turns_short f zero m h = short zero-le
turns_short f (suc n) m h =
    let before = turns_short f n m (λ k l. h k (omega arith)) in
    short (omega (arith, length-append (in_turn f n) (f n), before.most, (h n (le_refl (suc n))).most, mul-suc m n))

pub word_short : (word : List ℕ) → Short word (length word)
word_short word = short (le_refl (length word))

pub before_zero_short : (text : List ℕ) (m : ℕ) → length text ≤ m → Short (before_zero text) m
unfolding before_zero
before_zero_short text m h = short (rw length-take (omega arith))

-- a number n below m, which k + 1 digits hold
pub decimal_short : (n k m : ℕ) → n < m → T (leb m (10 ^ suc k)) → Short (decimal n) (suc k)
decimal_short n k m h t = short (omega (arith, decimal_long n, places_few n k (lt_of_lt_of_le h (leb→le m (10 ^ suc k) t))))

-- no number takes more than 21 digits
decimal_any : (n : ℕ) → Short (decimal n) 21
decimal_any n = short (omega (arith, decimal_long n, places_most n))

pub numbered_short : (word : List ℕ) (n k m : ℕ) → n < m → T (leb m (10 ^ suc k)) → Short (numbered word n) (length word + suc k)
unfolding numbered
numbered_short word n k m h t = both_short (word_short word) (decimal_short n k m h t)

pub numbered_any : (word : List ℕ) (n : ℕ) → Short (numbered word n) (length word + 21)
unfolding numbered
numbered_any word n = both_short (word_short word) (decimal_any n)
