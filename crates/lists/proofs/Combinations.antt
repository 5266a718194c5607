-- Laws of what specs/Combinations.antt defines.
use Rattle.std.specs.Prelude.{ℕ, zero, suc, ◌+◌, ◌*◌, ◌^◌, ◌≤◌, ◌<◌, Bool, true, false, List, [], ◌∷◌, ◌≡◌, refl, length, get_or}
use Rattle.std.proofs.Common.{sym, ap, ◌∙◌, le_of_suc-le-suc, not-suc-le-zero, arith}
use Rattle.std.proofs.Math.Nat.{pow-succ'}
use Rattle.lists.specs.Count.{bit, bit_small, bit_same}
use Rattle.lists.specs.Each.{each}
use Rattle.lists.specs.Combinations.{Choice, Combination, Just, all_or_none, combinations, how_many, passing}

-- ---- the combinations with 0 as first input, and those with 1

either_first : (p : List ℕ → Bool) (l : List (List ℕ))
    → passing p (each (λ inputs. (0 ∷ inputs) ∷ (1 ∷ inputs) ∷ []) l) ≡ passing (λ inputs. p (0 ∷ inputs)) l + passing (λ inputs. p (1 ∷ inputs)) l
unfolding each passing
either_first p [] = refl
either_first p (inputs ∷ l) = omega (arith, either_first p l)

split : (n : ℕ) (p : List ℕ → Bool) → how_many (suc n) p ≡ how_many n (λ inputs. p (0 ∷ inputs)) + how_many n (λ inputs. p (1 ∷ inputs))
unfolding how_many combinations
split n p = either_first p (combinations n)

only_one : (p : List ℕ → Bool) → how_many 0 p ≡ bit (p [])
unfolding how_many combinations passing
only_one p = omega arith

no_inputs : Combination 0 []
no_inputs = record { number = refl; bits = λ k l. absurd (not-suc-le-zero l) }

one_more : {n b : ℕ} {inputs : List ℕ} → b ≤ 1 → Combination n inputs → Combination (suc n) (b ∷ inputs)
one_more {n} {b} {inputs} h c = record { number = ap suc c.number; bits = at }
  where
    at : (k : ℕ) → k < length (b ∷ inputs) → get_or (b ∷ inputs) k 0 ≤ 1
    at zero l = h
    at (suc k) l = c.bits k (le_of_suc-le-suc l)

later : {n b : ℕ} {inputs : List ℕ} → Combination (suc n) (b ∷ inputs) → Combination n inputs
later c = record { number = omega (arith, c.number); bits = λ k l. c.bits (suc k) (omega arith) }

-- ---- only the combinations matter
pub many_same : (n : ℕ) (p q : List ℕ → Bool) → ((inputs : List ℕ) → Combination n inputs → p inputs ≡ q inputs) → how_many n p ≡ how_many n q
many_same zero p q h = only_one p ∙ ap bit (h [] no_inputs) ∙ sym (only_one q)
many_same (suc n) p q h =
    let low = many_same n (λ inputs. p (0 ∷ inputs)) (λ inputs. q (0 ∷ inputs)) (λ inputs c. h (0 ∷ inputs) (one_more (omega arith) c)) in
    let high = many_same n (λ inputs. p (1 ∷ inputs)) (λ inputs. q (1 ∷ inputs)) (λ inputs c. h (1 ∷ inputs) (one_more (omega arith) c)) in
    omega (arith, split n p, split n q)

pub many_never : (n : ℕ) → how_many n (λ inputs. false) ≡ 0
many_never zero = only_one (λ inputs. false)
many_never (suc n) = omega (arith, split n (λ inputs. false), many_never n)

-- there are 2 ^ n
pub many_always : (n : ℕ) → how_many n (λ inputs. true) ≡ 2 ^ n
many_always zero = only_one (λ inputs. true)
many_always (suc n) = omega (arith, split n (λ inputs. true), many_always n, pow-succ' 2 n)

pub many_most : (n : ℕ) (p : List ℕ → Bool) → how_many n p ≤ 2 ^ n
many_most zero p = omega (arith, only_one p, bit_small (p []))
many_most (suc n) p =
    omega (arith, split n p, many_most n (λ inputs. p (0 ∷ inputs)), many_most n (λ inputs. p (1 ∷ inputs)), pow-succ' 2 n)

pub many_if : (b : Bool) (n : ℕ) (p : List ℕ → Bool) → ((inputs : List ℕ) → Combination n inputs → p inputs ≡ b) → how_many n p ≡ all_or_none b n
many_if false n p h = many_same n p (λ inputs. false) h ∙ many_never n
many_if true n p h = many_same n p (λ inputs. true) h ∙ many_always n

-- two halves that are all or none together are so each
halves : (b : Bool) (n : ℕ) {x y : ℕ} → x ≤ 2 ^ n → y ≤ 2 ^ n → x + y ≡ all_or_none b (suc n) → (x ≡ all_or_none b n) × (y ≡ all_or_none b n)
halves false n l m e = (omega arith, omega arith)
halves true n l m e = let z = pow-succ' 2 n in (omega arith, omega arith)

one_of_one : (b : Bool) → all_or_none b 0 ≡ bit b
one_of_one false = refl
one_of_one true = refl

each_half : (b : Bool) (n : ℕ) (p : List ℕ → Bool) → how_many (suc n) p ≡ all_or_none b (suc n)
    → (how_many n (λ l. p (0 ∷ l)) ≡ all_or_none b n) × (how_many n (λ l. p (1 ∷ l)) ≡ all_or_none b n)
each_half b n p e = halves b n (many_most n (λ l. p (0 ∷ l))) (many_most n (λ l. p (1 ∷ l))) (sym (split n p) ∙ e)

pub many_only : (b : Bool) (n : ℕ) (p : List ℕ → Bool) → how_many n p ≡ all_or_none b n → (inputs : List ℕ) → Combination n inputs → p inputs ≡ b
many_only b zero p e [] c = bit_same (p []) b (sym (only_one p) ∙ e ∙ one_of_one b)
many_only b zero p e (d ∷ inputs) c = absurd (omega (arith, c.number))
many_only b (suc n) p e [] c = absurd (omega (arith, c.number))
many_only b (suc n) p e (zero ∷ inputs) c = many_only b n (λ l. p (0 ∷ l)) (each_half b n p e).0 inputs (later c)
many_only b (suc n) p e (suc zero ∷ inputs) c = many_only b n (λ l. p (1 ∷ l)) (each_half b n p e).1 inputs (later c)
many_only b (suc n) p e (suc (suc d) ∷ inputs) c = absurd (omega (arith, c.bits 0 (omega arith)))

head_differs : {a b : ℕ} {l m : List ℕ} → (a ≡ b → ⊥) → a ∷ l ≡ b ∷ m → ⊥
head_differs f e = f (cc)

tail_of : {a b : ℕ} {l m : List ℕ} → a ∷ l ≡ b ∷ m → l ≡ m
tail_of e = cc

just_later : {p : List ℕ → Bool} {b : ℕ} {inputs : List ℕ} → Just p (b ∷ inputs) → Just (λ l. p (b ∷ l)) inputs
just_later j = record { here = j.here; nowhere_else = λ l f. j.nowhere_else _ (λ e. f (tail_of e)) }

nowhere_with : (n b c : ℕ) (p : List ℕ → Bool) (inputs : List ℕ) → Just p (b ∷ inputs) → (c ≡ b → ⊥) → how_many n (λ l. p (c ∷ l)) ≡ 0
nowhere_with n b c p inputs j f = many_same n (λ l. p (c ∷ l)) (λ l. false) (λ l k. j.nowhere_else (c ∷ l) (head_differs f)) ∙ many_never n

pub many_once : (n : ℕ) (p : List ℕ → Bool) (inputs : List ℕ) → Combination n inputs → Just p inputs → how_many n p ≡ 1
many_once zero p [] c j = only_one p ∙ ap bit j.here
many_once zero p (b ∷ inputs) c j = absurd (omega (arith, c.number))
many_once (suc n) p [] c j = absurd (omega (arith, c.number))
many_once (suc n) p (zero ∷ inputs) c j =
    omega (arith, split n p, many_once n (λ l. p (0 ∷ l)) inputs (later c) (just_later j), nowhere_with n 0 1 p inputs j (λ e. omega arith))
many_once (suc n) p (suc zero ∷ inputs) c j =
    omega (arith, split n p, many_once n (λ l. p (1 ∷ l)) inputs (later c) (just_later j), nowhere_with n 1 0 p inputs j (λ e. omega arith))
many_once (suc n) p (suc (suc b) ∷ inputs) c j = absurd (omega (arith, c.bits 0 (omega arith)))

choice_later : {n v : ℕ} {p q r : List ℕ → Bool} (b : ℕ) → Choice (suc n) (suc v) p q r
    → Choice n v (λ l. p (b ∷ l)) (λ l. q (b ∷ l)) (λ l. r (b ∷ l))
choice_later b c = record {
  low = λ l e. c.low (b ∷ l) (ap suc e);
  high = λ l e. c.high (b ∷ l) (ap suc e);
  low_deaf = λ l e. c.low_deaf (b ∷ l) (ap suc e);
  high_deaf = λ l e. c.high_deaf (b ∷ l) (ap suc e);
}

-- its count is the mean of the two
pub many_choice : (n v : ℕ) (p q r : List ℕ → Bool) → v < n → Choice n v p q r → how_many n q + how_many n r ≡ how_many n p * 2
many_choice zero v p q r l c = absurd (not-suc-le-zero l)
many_choice (suc n) zero p q r l c =
    let a = many_same n (λ i. p (0 ∷ i)) (λ i. q (0 ∷ i)) (λ i k. c.low (0 ∷ i) (ap suc k.number)) in
    let b = many_same n (λ i. p (1 ∷ i)) (λ i. r (1 ∷ i)) (λ i k. c.high (0 ∷ i) (ap suc k.number)) in
    let d = many_same n (λ i. q (0 ∷ i)) (λ i. q (1 ∷ i)) (λ i k. c.low_deaf (0 ∷ i) (ap suc k.number)) in
    let f = many_same n (λ i. r (0 ∷ i)) (λ i. r (1 ∷ i)) (λ i k. c.high_deaf (0 ∷ i) (ap suc k.number)) in
    omega (arith, split n p, split n q, split n r)
many_choice (suc n) (suc v) p q r l c =
    let at : (b : ℕ) → how_many n (λ i. q (b ∷ i)) + how_many n (λ i. r (b ∷ i)) ≡ how_many n (λ i. p (b ∷ i)) * 2 =
    λ b. many_choice n v (λ i. p (b ∷ i)) (λ i. q (b ∷ i)) (λ i. r (b ∷ i)) (le_of_suc-le-suc l) (choice_later b c) in
    omega (arith, at 0, at 1, split n p, split n q, split n r)
