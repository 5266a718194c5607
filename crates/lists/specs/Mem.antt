-- An element of a list, the indices at which it stands, and lists in which no element stands twice.
use Rattle.std.specs.Prelude.{ℕ, zero, suc, ◌<◌, List, [], ◌∷◌, ◌++◌, ◌≡◌, refl, length, get_or}
use mathlib.Core.List.Memᴰ
use mathlib.Core.List.{Memᴰ}
use Rattle.std.proofs.Common.{⊎_elim, ap, sym, not-suc-le-zero, arith}
use Rattle.lists.specs.Says.{Some}

-- a is in l
abbrev pub Mem : {A : Type 0} → A → List A → Type 0
Mem a l = Memᴰ a l

-- no element stands twice
abbrev pub Apart : {A : Type 0} → List A → Type 0
Apart [] = Unit {0}
Apart (a ∷ l) = (Mem a l → ⊥) × Apart l

module _ {A : Type 0} where
  pub at_mem : (l : List A) (k : ℕ) (d : A) → k < length l → Mem (get_or l k d) l
  at_mem [] k d h = absurd (not-suc-le-zero h)
  at_mem (a ∷ l) zero d h = Memᴰ.head refl
  at_mem (a ∷ l) (suc k) d h = Memᴰ.tail (at_mem l k d (omega arith))

  pub mem_at : (a : A) (l : List A) (d : A) → Mem a l → Some (λ k. get_or l k d ≡ a) (length l)
  mem_at a [] d m = absurd (Memᴰ.not-nil m)
  mem_at a (b ∷ l) d m = ⊎_elim (λ z. record { index = 0; below = omega arith; holds = sym z }) (λ i. later (mem_at a l d i)) (Memᴰ.cases_cons m)
    where
      later : Some (λ k. get_or l k d ≡ a) (length l) → Some (λ k. get_or (b ∷ l) k d ≡ a) (suc (length l))
      later s = record { index = suc s.index; below = omega (arith, s.below); holds = s.holds }

  -- an element has one index where no element stands twice
  pub apart_at : (l : List A) (i j : ℕ) (d : A) → Apart l → i < length l → j < length l → get_or l i d ≡ get_or l j d → i ≡ j
  apart_at [] i j d h p q e = absurd (not-suc-le-zero p)
  apart_at (a ∷ l) zero zero d h p q e = refl
  apart_at (a ∷ l) zero (suc j) d h p q e = absurd (h.0 (Memᴰ.cast e (at_mem l j d (omega arith))))
  apart_at (a ∷ l) (suc i) zero d h p q e = absurd (h.0 (Memᴰ.cast (sym e) (at_mem l i d (omega arith))))
  apart_at (a ∷ l) (suc i) (suc j) d h p q e = ap suc (apart_at l i j d h.1 (omega arith) (omega arith) e)

  -- two such lists joined that share no element
  pub append_apart : (l m : List A) → Apart l → Apart m → ((a : A) → Mem a l → Mem a m → ⊥) → Apart (l ++ m)
  append_apart [] m h k d = k
  append_apart (a ∷ l) m h k d = (
    λ i. ⊎_elim h.0 (d a (Memᴰ.head refl)) (Memᴰ.append_cases l i),
    append_apart l m h.1 k (λ b i j. d b (Memᴰ.tail i) j),
  )
