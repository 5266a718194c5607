-- The lists of all elements of a list, joined in its order.
use Rattle.std.specs.Prelude.{ℕ, ◌*◌, ◌≡◌, length}
use mathlib.Core.List.Memᴰ
use mathlib.Core.List.{List, [], ◌∷◌, ◌++◌, append_assoc}
use Rattle.std.proofs.Math.Logic.{⊎_elim}
use Rattle.std.proofs.Math.Path.{refl, sym}
use Rattle.std.proofs.Common.{subst, zero-mul, arith}
use Rattle.std.proofs.Math.Nat.{suc-mul}
use Rattle.std.proofs.Math.ListN.{length-append}
use Rattle.lists.specs.Mem.{Mem}

-- what f makes of each element, one list after the other
unfoldable pub each : {A B : Type 0} → (A → List B) → List A → List B
each f [] = []
each f (a ∷ l) = f a ++ each f l

module _ {A B : Type 0} (f : A → List B) where
  pub each_mem : (b : B) (l : List A) → Mem b (each f l) → (a : A) × Mem a l × Mem b (f a)
  unfolding each
  each_mem b [] m = absurd (Memᴰ.not-nil m)
  each_mem b (a ∷ l) m = ⊎_elim (λ i. (a, Memᴰ.head refl, i)) (λ i. later (each_mem b l i)) (Memᴰ.append_cases (f a) m)
    where
      later : (c : A) × Mem c l × Mem b (f c) → (c : A) × Mem c (a ∷ l) × Mem b (f c)
      later r = (r.0, Memᴰ.tail r.1, r.2)

  pub mem_each : (b : B) (a : A) (l : List A) → Mem a l → Mem b (f a) → Mem b (each f l)
  unfolding each
  mem_each b a [] m n = absurd (Memᴰ.not-nil m)
  mem_each b a (c ∷ l) m n =
      ⊎_elim
      (λ z. Memᴰ.append_left (each f l) (subst (λ (u : A). Mem b (f u)) z n))
      (λ i. Memᴰ.append_right (f c) (mem_each b a l i n))
      (Memᴰ.cases_cons m)

  pub each_append : (l m : List A) → each f (l ++ m) ≡ each f l ++ each f m
  unfolding each
  each_append [] m = refl
  each_append (a ∷ l) m = rw (each_append l m) (sym (append_assoc (f a) (each f l) (each f m)))

  -- as many elements of each
  pub each_length : (m : ℕ) → ((a : A) → length (f a) ≡ m) → (l : List A) → length (each f l) ≡ length l * m
  unfolding each
  each_length m h [] = sym (zero-mul m)
  each_length m h (a ∷ l) = omega (arith, length-append (f a) (each f l), h a, each_length m h l, suc-mul (length l) m)
