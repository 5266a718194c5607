-- Each element of a list once, at its first place.
use Rattle.std.specs.Prelude.{◌≤◌, Bool, cond, ◌⊎◌, ◌≡◌, length, get_or}
use Rattle.std.proofs.Common.{zero-le, inl, inr, ◌∙◌, arith}
use Rattle.std.proofs.Math.Bool.{true, false, not}
use mathlib.Core.List.Memᴰ
use mathlib.Core.List.{List, [], ◌∷◌, ◌++◌, append-nil}
use Rattle.std.proofs.Math.Logic.{⊎_elim}
use Rattle.std.proofs.Math.Path.{refl, sym}
use borrow.Author.Tests.{not-true}
use Rattle.lists.specs.First.{any}
use Rattle.lists.specs.Keep.{keep, keep_mem, mem_keep, keep_apart, keep_append, keep_short}
use Rattle.lists.specs.Mem.{Mem, Apart, at_mem, mem_at}
use Rattle.lists.specs.Says.{Says, Some, says_any, true_false, denies, decided}

-- same says which elements count as equal
unfoldable pub once : {A : Type 0} → (A → A → Bool) → List A → List A
once same [] = []
once same (a ∷ l) = a ∷ keep (λ b. not (same a b)) (once same l)

pub once_short : {A : Type 0} (same : A → A → Bool) (l : List A) → length (once same l) ≤ length l
unfolding once
once_short same [] = zero-le
once_short same (a ∷ l) = omega (arith, keep_short (λ b. not (same a b)) (once same l), once_short same l)

-- ---- by a test that is equality

module _ {A : Type 0} (same : A → A → Bool) (says : (a b : A) → Says (same a b) (a ≡ b)) where
  pub once_mem : (a : A) (l : List A) → Mem a (once same l) → Mem a l
  unfolding once
  once_mem a [] m = absurd (Memᴰ.not-nil m)
  once_mem a (b ∷ l) m = ⊎_elim Memᴰ.head (λ i. Memᴰ.tail (once_mem a l (keep_mem _ a (once same l) i).0)) (Memᴰ.cases_cons m)

  pub mem_once : (a : A) (l : List A) → Mem a l → Mem a (once same l)
  unfolding once
  mem_once a [] m = m
  mem_once a (b ∷ l) m = go (mem_once a l) (same b a) refl (Memᴰ.cases_cons m)
    where
      go : (Mem a l → Mem a (once same l)) → (u : Bool) → same b a ≡ u → (a ≡ b) ⊎ Mem a l → Mem a (b ∷ keep (λ c. not (same b c)) (once same l))
      go rest true e i = Memᴰ.head (sym ((says b a).yes e))
      go rest false e (inl z) = Memᴰ.head z
      go rest false e (inr i) = Memᴰ.tail (mem_keep (λ c. not (same b c)) a (once same l) (rest i) (rw e))

  pub once_apart : (l : List A) → Apart (once same l)
  unfolding once
  once_apart [] = tt
  once_apart (b ∷ l) = (other, keep_apart _ (once same l) (once_apart l))
    where
      other : Mem b (keep (λ c. not (same b c)) (once same l)) → ⊥
      other m = true_false (sym ((says b b).no refl) ∙ not-true (same b b) (keep_mem (λ c. not (same b c)) b (once same l) m).1)

  says_mem : (l : List A) (a d : A) → Says (any (λ k. same a (get_or l k d)) (length l)) (Mem a l)
  says_mem l a d = record {
    yes = λ e. let w = s.yes e in Memᴰ.cast w.holds (at_mem l w.index d w.below);
    no = λ m. let w = mem_at a l d m in s.no (record { index = w.index; below = w.below; holds = sym w.holds });
  }
    where
      s : Says (any (λ k. same a (get_or l k d)) (length l)) (Some (λ k. a ≡ get_or l k d) (length l))
      s = says_any _ _ (λ k. a ≡ get_or l k d) (λ k. says a (get_or l k d))

  -- ---- an element more: one that is there already changes nothing, another one goes to the end

  once_other : (l : List A) (a : A) → (Mem a l → ⊥) → once same (l ++ (a ∷ [])) ≡ once same l ++ (a ∷ [])
  unfolding once keep
  once_other [] a n = refl
  once_other (b ∷ l) a n =
      let d : same b a ≡ false = denies (says b a) (λ e. n (Memᴰ.head (sym e))) in
      rw (once_other l a (λ m. n (Memᴰ.tail m)), keep_append, d)

  once_there : (l : List A) (a : A) → Mem a l → once same (l ++ (a ∷ [])) ≡ once same l
  unfolding once keep
  once_there [] a m = absurd (Memᴰ.not-nil m)
  once_there (b ∷ l) a m =
      ⊎_elim
      (λ i. rw (once_there l a i))
      (λ n. last n (⊎_elim sym (λ i. absurd (n i)) (Memᴰ.cases_cons m)))
      (decided (says_mem l a a))
    where
      last : (Mem a l → ⊥) → b ≡ a → once same ((b ∷ l) ++ (a ∷ [])) ≡ once same (b ∷ l)
      last n e = rw (once_other l a n, keep_append, (says b a).no e, append-nil)

  pub once_more : (l : List A) (a d : A)
      → once same (l ++ (a ∷ [])) ≡ cond (any (λ k. same a (get_or (once same l) k d)) (length (once same l))) (once same l) (once same l ++ (a ∷ []))
  once_more l a d = go (any (λ k. same a (get_or (once same l) k d)) (length (once same l))) (says_mem (once same l) a d)
    where
      go : (u : Bool) → Says u (Mem a (once same l)) → once same (l ++ (a ∷ [])) ≡ cond u (once same l) (once same l ++ (a ∷ []))
      go true s = once_there l a (once_mem a l (s.yes refl))
      go false s = once_other l a (λ m. true_false (sym (s.no (mem_once a l m))))
