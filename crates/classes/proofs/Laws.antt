-- A bit of a key, in the field where it lies.
use Prim.Native.Nat.{ℕ, ◌+◌, ◌-◌, ◌*◌, ◌/◌, ◌%◌, ◌^◌, ◌≤◌, ◌<◌}
use mathlib.Core.List.{List}
use mathlib.Core.Path.{◌≡◌, ap, sym, ◌∙◌}
use native.Mathlib.Nat.{add-mul-div_left, add-mul-mod_self_left, div-div-eq-div-mul, div-eq_of_lt, mul_assoc}
use native.Mathlib.Omega.{arith}
use lib.Pow.{pow-add, pow_pos}
use Rattle.diagrams.specs.Layout.{record_size, variable_at, low_at, high_at}
use Rattle.diagrams.specs.Bytes.{Bytes, pair_small}
use Rattle.classes.specs.Keys.{part, bit_at}

-- ---- a bit of x, or of y above it
module _ (x y w k : ℕ) where
  bit_below : k < w → (x + 2 ^ w * y) / 2 ^ k % 2 ≡ x / 2 ^ k % 2
  bit_below l =
      ap (λ z. (x + z) / 2 ^ k % 2) (ap (λ n. 2 ^ n * y) split ∙ ap (λ n. n * y) (pow-add 2 k (1 + d)) ∙ mul_assoc (2 ^ k) (2 ^ (1 + d)) y)
      ∙ ap (λ z. z % 2) (add-mul-div_left x (2 ^ (1 + d) * y) (pow_pos k))
      ∙ ap (λ z. (x / 2 ^ k + z) % 2) (ap (λ n. n * y) (pow-add 2 1 d) ∙ mul_assoc 2 (2 ^ d) y)
      ∙ add-mul-mod_self_left (x / 2 ^ k) 2 (2 ^ d * y)
    where
      d : ℕ
      d = w - k - 1

      split : w ≡ k + (1 + d)
      split = omega arith

  above : w ≤ k → x < 2 ^ w → (x + 2 ^ w * y) / 2 ^ k ≡ y / 2 ^ (k - w)
  above l h =
      let split : k ≡ w + (k - w) = omega arith in
      let none : x / 2 ^ w + y ≡ y = omega (arith, div-eq_of_lt h) in
      ap (λ n. (x + 2 ^ w * y) / n) (ap (λ n. 2 ^ n) split ∙ pow-add 2 w (k - w))
      ∙ sym (div-div-eq-div-mul (x + 2 ^ w * y) (2 ^ w) (2 ^ (k - w)))
      ∙ ap (λ n. n / 2 ^ (k - w)) (add-mul-div_left x y (pow_pos w) ∙ none)

module _ (t : List ℕ) (k i : ℕ) where
  pub bit_of_variable : k < 8 → variable_at t i / 2 ^ k % 2 ≡ bit_at t k i
  unfolding bit_at part
  bit_of_variable l = sym (bit_below (variable_at t i) (low_at t i + 65536 * high_at t i) 8 k l)

  module _ (b : Bytes t) where
    small : variable_at t i < 256
    small = (b (record_size * i)).fits

    fits : low_at t i < 65536
    fits = pair_small t (record_size * i + 2) b

    pub bit_of_low : 8 ≤ k → k < 24 → low_at t i / 2 ^ (k - 8) % 2 ≡ bit_at t k i
    unfolding bit_at part
    bit_of_low h l =
        sym (ap (λ n. n % 2) (above (variable_at t i) (low_at t i + 65536 * high_at t i) 8 k h small)
        ∙ bit_below (low_at t i) (high_at t i) 16 (k - 8) (omega arith))

    pub bit_of_high : 24 ≤ k → high_at t i / 2 ^ (k - 24) % 2 ≡ bit_at t k i
    unfolding bit_at part
    bit_of_high h =
        let z : k - 8 - 16 ≡ k - 24 = omega arith in
        sym (ap (λ n. n % 2) (above (variable_at t i) (low_at t i + 65536 * high_at t i) 8 k (omega arith) small
        ∙ above (low_at t i) (high_at t i) 16 (k - 8) (omega arith) fits
        ∙ ap (λ n. high_at t i / 2 ^ n) z))
