-- A share is exactly c / 2 ^ n: nothing is rounded, neither in it, nor in the sum of two of them, nor in the half of that sum.
use Rattle.std.specs.Prelude.{ℕ, zero, suc, ◌+◌, ◌-◌, ◌*◌, ◌^◌, ◌≤◌, ◌<◌, Bool, true, cond, ◌≡◌, eqb, Float}
use Rattle.std.proofs.Math.Bool.{false}
use Rattle.std.proofs.Common.{true≢false, sym, ◌∙◌, subst, lt_irrefl, lt_of_lt_of_le, add-mul, zero-mul, mul_comm, mul_right_comm, mul-one, one-mul, mul-pos, lt_of_le_of_lt, zero-lt-suc, arith, lit<, pow-add, pow_pos, pow_mono, shl_lt}
use Rattle.std.proofs.Math.Path.{refl, ap}
use Rattle.std.proofs.Math.Nat.{mul_assoc, mul-mul-mul_comm}
use Rattle.std.proofs.Math.Dec.{eqb-suc-zero}
use Rattle.std.specs.Float.{nan, inf, fin, Format}
use Rattle.std.specs.Float.Ieee.{binary64, up, down, round, add, div, of_int, of_bits}
use Rattle.std.specs.Float.Ieee.Fits.{up_pos, down_pos}
use Rattle.std.specs.Float.Ieee.Exact.{HasValue, round_exact}
use Rattle.std.specs.Float.Ieee.Back.{round_whole}
use Rattle.std.specs.Float.Ieee.Scale.{round_same}
use Rattle.count_shares.specs.Share.{most_counted, share, quotient, none, all, two}

-- ---- sum and quotient of doubles that are fractions: the exact result, rounded once

cross : (x y a b c p q : ℕ) → x * c ≡ a * p → y * c ≡ b * q → (x * q + y * p) * c ≡ (a + b) * (p * q)
cross x y a b c p q h k =
    let s : x * q * c ≡ a * (p * q) = mul_right_comm x q c ∙ ap (λ (z : ℕ). z * q) h ∙ mul_assoc a p q in
    let t : y * p * c ≡ b * (p * q) = mul_right_comm y p c ∙ ap (λ (z : ℕ). z * p) k ∙ mul_assoc b q p ∙ ap (λ (z : ℕ). b * z) (mul_comm q p) in
    simp add-mul (cc)

add_at : (f : Format) (x y : Float) (a b c : ℕ) → 0 < c → HasValue x false a c → HasValue y false b c → add f x y ≡ round f false (a + b) c
unfolding add
add_at f nan y a b c C h k = absurd h
add_at f (inf s) y a b c C h k = absurd h
add_at f (fin s m e) nan a b c C h k = absurd k
add_at f (fin s m e) (inf t) a b c C h k = absurd k
add_at f (fin true m e) (fin t n d) a b c C h k = absurd (true≢false h.0)
add_at f (fin false m e) (fin true n d) a b c C h k = absurd (true≢false k.0)
add_at f (fin false m e) (fin false n d) a b c C h k =
    round_same f false (m * up e * down d + n * up d * down e) (down e * down d) (a + b) c (mul-pos (down_pos e) (down_pos d)) C
    (cross (m * up e) (n * up d) a b c (down e) (down d) h.1 k.1)

div_at : (f : Format) (x y : Float) (a c b d : ℕ) → 0 < c → 0 < b → HasValue x false a c → HasValue y false b d → div f x y ≡ round f false (a * d) (c * b)
unfolding div
div_at f nan y a c b d C B h k = absurd h
div_at f (inf s) y a c b d C B h k = absurd h
div_at f (fin s m e) nan a c b d C B h k = absurd k
div_at f (fin s m e) (inf t) a c b d C B h k = absurd k
div_at f (fin true m e) (fin t n i) a c b d C B h k = absurd (true≢false h.0)
div_at f (fin false m e) (fin true n i) a c b d C B h k = absurd (true≢false k.0)
div_at f (fin false m e) (fin false zero i) a c b d C B h k =
    absurd (lt_irrefl 0 (subst (λ (z : ℕ). 0 < z) (sym k.1 ∙ ap (λ (z : ℕ). z * d) (zero-mul (up i)) ∙ zero-mul d) (mul-pos B (down_pos i))))
div_at f (fin false m e) (fin false (suc n) i) a c b d C B h k =
    ap (λ (z : Bool). cond z (cond (eqb m 0) nan (inf false)) (round f false (m * up e * down i) (suc n * up i * down e))) (eqb-suc-zero n)
    ∙ round_same f false (m * up e * down i) (suc n * up i * down e) (a * d) (c * b)
    (mul-pos (mul-pos (zero-lt-suc n) (up_pos i)) (down_pos e)) (mul-pos C B)
    (mul-mul-mul_comm (m * up e) (down i) c b
    ∙ ap (λ (z : ℕ). z * (down i * b)) h.1
    ∙ ap (λ (z : ℕ). a * down e * z) (mul_comm (down i) b ∙ sym k.1 ∙ mul_comm (suc n * up i) d)
    ∙ mul-mul-mul_comm a (down e) d (suc n * up i)
    ∙ ap (λ (z : ℕ). a * d * z) (mul_comm (down e) (suc n * up i)))

-- ---- a share has the value c / 2 ^ n to the last digit, where c is a number below 2 ^ 53 or its double

exact : (c q j n : ℕ) → c ≡ q * 2 ^ j → q < 2 ^ 53 → j ≤ 1 → n ≤ 1074 → HasValue (share c n) false c (2 ^ n)
unfolding share
exact c q j n e small few fine =
    round_exact binary64 false c (2 ^ n) q (j + (1074 - n)) (pow_pos n) small
    (lt_of_lt_of_le (shl_lt 53 (j + (1074 - n)) small) (pow_mono room))
    (ap (λ (z : ℕ). z * 2 ^ 1074) e
    ∙ mul_assoc q (2 ^ j) (2 ^ 1074)
    ∙ ap (λ (z : ℕ). q * z) (sym (pow-add 2 j 1074) ∙ ap (λ (z : ℕ). 2 ^ z) whole ∙ pow-add 2 (j + (1074 - n)) n)
    ∙ sym (mul_assoc q (2 ^ (j + (1074 - n))) (2 ^ n)))
  where
    room : 53 + (j + (1074 - n)) ≤ 1074 + 1024
    room = omega arith

    whole : j + 1074 ≡ j + (1074 - n) + n
    whole = omega arith

pub share_exact : (c n : ℕ) → c < 2 ^ 53 → n ≤ 1074 → HasValue (share c n) false c (2 ^ n)
share_exact c n small fine = exact c c 0 n (sym (mul-one c)) small (omega arith) fine

-- a count of at most 2 ^ n is such a number
pub count_small : (c n : ℕ) → n ≤ most_counted → c ≤ 2 ^ n → c < 2 ^ 53
count_small c n few h = lt_of_le_of_lt h (lt_of_le_of_lt (pow_mono few) (lit< tt))

-- ---- none and all of the combinations

pub share_none : (n : ℕ) → share 0 n ≡ none
unfolding share of_bits round
share_none n = round_same binary64 false 0 (2 ^ n) 0 1 (pow_pos n) (zero-lt-suc 0) (sym (zero-mul (2 ^ n)))

pub share_all : (n : ℕ) → share (2 ^ n) n ≡ all
unfolding share of_bits round
share_all n = round_same binary64 false (2 ^ n) (2 ^ n) 1 1 (pow_pos n) (zero-lt-suc 0) (mul_comm (2 ^ n) 1)

-- ---- a share is what dividing the count by 2 ^ n gives

pub share_quotient : (c n : ℕ) → c ≤ 2 ^ 53 → n ≤ 53 → share c n ≡ quotient c n
unfolding share quotient of_int
share_quotient c n C N =
    round_same binary64 false c (2 ^ n) (c * 1) (1 * 2 ^ n) (pow_pos n) (mul-pos (zero-lt-suc 0) (pow_pos n)) (simp (mul-one, one-mul))
    ∙ sym (div_at binary64 (round binary64 false c 1) (round binary64 false (2 ^ n) 1) c 1 (2 ^ n) 1 (zero-lt-suc 0) (pow_pos n)
    (round_whole binary64 false c C) (round_whole binary64 false (2 ^ n) (pow_mono N)))

-- ---- low and high shares, added and halved: the share of the mean

two_is : HasValue two false 2 1
unfolding of_bits
two_is = (refl, refl)

module _ (a b c n : ℕ) (few : n ≤ most_counted) (A : a ≤ 2 ^ n) (B : b ≤ 2 ^ n) (mean : a + b ≡ c * 2) where
  under : (a < 2 ^ 53) × (b < 2 ^ 53) × (c < 2 ^ 53)
  under =
      let p = count_small a n few A in
      let q = count_small b n few B in
      (p, q, omega arith)

  fine : n ≤ 1074
  fine = omega arith

  sum : add binary64 (share a n) (share b n) ≡ share (c * 2) n
  unfolding share
  sum =
      add_at binary64 (share a n) (share b n) a b (2 ^ n) (pow_pos n) (share_exact a n under.0 fine) (share_exact b n under.1 fine)
      ∙ ap (λ (z : ℕ). share z n) mean

  half : div binary64 (share (c * 2) n) two ≡ share c n
  unfolding share
  half =
      div_at binary64 (share (c * 2) n) two (c * 2) (2 ^ n) 2 1 (pow_pos n) (zero-lt-suc 1) (exact (c * 2) c 1 n refl under.2 (omega arith) fine) two_is
      ∙ round_same binary64 false (c * 2 * 1) (2 ^ n * 2) c (2 ^ n) (mul-pos (pow_pos n) (zero-lt-suc 1)) (pow_pos n)
      (ap (λ (z : ℕ). z * 2 ^ n) (mul-one (c * 2)) ∙ mul_assoc c 2 (2 ^ n) ∙ ap (λ (z : ℕ). c * z) (mul_comm 2 (2 ^ n)))

  pub share_mean : div binary64 (add binary64 (share a n) (share b n)) two ≡ share c n
  share_mean = ap (λ (z : Float). div binary64 z two) sum ∙ half
