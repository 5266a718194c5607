-- The key of a record, its variable, low and high as one number of 40 bits; and its leading bits, all but the last k.
use Rattle.std.specs.Prelude.{ℕ, ◌+◌, ◌*◌, ◌/◌, ◌%◌, ◌^◌, ◌≤◌, ◌<◌, List, ◌≡◌, refl, get_or}
use Rattle.std.proofs.Common.{ap, sym, ◌∙◌, pow-suc, add-one, arith}
use Rattle.std.proofs.Math.Nat.{div-div-eq-div-mul}
use Rattle.diagrams.specs.Layout.{most_records, record_size, variable_at, low_at, high_at}
use Rattle.diagrams.specs.Bytes.{Bytes, pair_small}
use Rattle.classes.specs.Classes.{Classes, Alike, class_within, class_key, key_class, classes_alike}
use Rattle.classes.specs.Pass.{slots}

abbrev pub key_at : List ℕ → ℕ → ℕ
key_at t i = variable_at t i + 256 * (low_at t i + 65536 * high_at t i)

unfoldable pub part : List ℕ → ℕ → ℕ → ℕ
part t k i = key_at t i / 2 ^ k

-- bit k
unfoldable pub bit_at : List ℕ → ℕ → ℕ → ℕ
bit_at t k i = part t k i % 2

-- the bits that are left after the first pass
abbrev pub rest : ℕ
rest = 27

-- a slot for each class so far and bit
unfoldable pub place_at : List ℕ → List ℕ → ℕ → ℕ → ℕ
place_at t class k i = 2 * get_or class i 0 + bit_at t k i

-- ---- what fits

pub lead_small : (t : List ℕ) → Bytes t → (i : ℕ) → part t rest i < slots
unfolding part
lead_small t b i = omega (arith, (b (record_size * i)).fits, pair_small t (record_size * i + 2) b, pair_small t (record_size * i + 4) b)

bit_small : (t : List ℕ) (k i : ℕ) → bit_at t k i < 2
unfolding bit_at
bit_small t k i = omega arith

pub class_small : {n : ℕ} {key : ℕ → ℕ} {class : List ℕ} → Classes key n class → n ≤ most_records → (i : ℕ) → i < n → get_or class i 0 < most_records
class_small {n} {key} c h i l = omega (arith, c.each i l, class_within key i)

-- ---- one bit more
half : (t : List ℕ) (k i : ℕ) → part t (k + 1) i ≡ part t k i / 2
unfolding part
half t k i = ap (λ p. key_at t i / p) (ap (λ n. 2 ^ n) (add-one k) ∙ pow-suc 2 k) ∙ sym (div-div-eq-div-mul (key_at t i) (2 ^ k) 2)

bit_is : (t : List ℕ) (k i : ℕ) → bit_at t k i ≡ part t k i % 2
unfolding bit_at
bit_is t k i = refl

-- class and bit tell apart what one bit more of the key tells apart
pub place_alike : (t : List ℕ) (k n : ℕ) {class : List ℕ} → Classes (part t (k + 1)) n class → Alike (place_at t class k) (part t k) n
unfolding place_at
place_alike t k n {class} c = record {
  to = λ j i h l e.
      let s : get_or class j 0 ≡ get_or class i 0 = omega (arith, bit_small t k j, bit_small t k i) in
      let b : bit_at t k j ≡ bit_at t k i = omega (arith, bit_small t k j, bit_small t k i) in
      let p = class_key (part t (k + 1)) j i (sym (c.each j (omega arith)) ∙ s ∙ c.each i l) in
      omega (arith, half t k j, half t k i, bit_is t k j, bit_is t k i);
  from = λ j i h l e.
      let s = key_class (part t (k + 1)) j i h (half t k j ∙ ap (λ x. x / 2) e ∙ sym (half t k i)) in
      let b = bit_is t k j ∙ ap (λ x. x % 2) e ∙ sym (bit_is t k i) in
      omega (arith, c.each j (omega arith), c.each i l);
}

pub one_bit_more : (t : List ℕ) (k n : ℕ) {class class' : List ℕ} → Classes (part t (k + 1)) n class → Classes (place_at t class k) n class'
    → Classes (part t k) n class'
one_bit_more t k n c d = classes_alike (place_alike t k n c) d

-- all bits
pub whole : (t : List ℕ) (n : ℕ) {class : List ℕ} → Classes (part t 0) n class → Classes (key_at t) n class
unfolding part
whole t n c = classes_alike (record { to = λ j i h l e. omega arith; from = λ j i h l e. omega arith }) c
