-- The class of an entry: the first entry with its key, which is itself where none before it has that key.
use Prim.Native.Nat.{ℕ, ◌≤◌, ◌<◌}
use Rattle.std.proofs.Math.Bool.{Bool}
use Rattle.std.specs.Prelude.{true, List, ◌≡◌, length, get_or}
use Rattle.std.proofs.Math.Path.{ap, sym}
use Rattle.std.proofs.Common.{◌∙◌, arith}
use borrow.Author.Tests.{eqb-true, eq-eqb}
use Rattle.std.proofs.Math.Dec.{eqb}
use Rattle.lists.specs.First.{first, first_at, first_passed, first_holds, first_within, first_agrees}
use Rattle.lists.specs.Says.{either_side, agree, says_eqb}

unfoldable pub class_of : (ℕ → ℕ) → ℕ → ℕ
class_of key i = first (λ j. eqb (key j) (key i)) i

-- the classes of n entries
pub record Classes (key : ℕ → ℕ) (n : ℕ) (class : List ℕ) : Type 0 where
  pub room : n ≤ length class
  pub each : (k : ℕ) → k < n → get_or class k 0 ≡ class_of key k

module _ (key : ℕ → ℕ) where
  pub class_within : (i : ℕ) → class_of key i ≤ i
  unfolding class_of
  class_within i = first_within (λ j. eqb (key j) (key i)) i

  first_key : (i : ℕ) → key (class_of key i) ≡ key i
  unfolding class_of
  first_key i =
      either_side (class_of key i) i
      (λ l. eqb-true (key (class_of key i)) (key i) (first_holds (λ j. eqb (key j) (key i)) i l))
      (λ l. let z : class_of key i ≡ i = omega (arith, class_within i) in ap key z)

  -- one class, one key
  pub class_key : (j i : ℕ) → class_of key j ≡ class_of key i → key j ≡ key i
  class_key j i e = sym (first_key j) ∙ ap key e ∙ first_key i

  -- one key, one class
  pub key_class : (j i : ℕ) → j < i → key j ≡ key i → class_of key j ≡ class_of key i
  unfolding class_of
  key_class j i l e =
      ap (λ a. first (λ k. eqb (key k) a) j) e
      ∙ sym (first_at p i (first p j) (first_passed p j) holds (omega (arith, first_within p j)))
    where
      p : ℕ → Bool
      p k = eqb (key k) (key i)

      holds : p (first p j) ≡ true
      holds =
          either_side (first p j) j
          (first_holds p j)
          (λ m. let z : first p j ≡ j = omega (arith, first_within p j) in eq-eqb (key (first p j)) (key i) (ap key z ∙ e))

-- ---- two keys that tell the same entries apart
pub record Alike (f g : ℕ → ℕ) (n : ℕ) : Type 0 where
  pub to : (j i : ℕ) → j < i → i < n → f j ≡ f i → g j ≡ g i
  pub from : (j i : ℕ) → j < i → i < n → g j ≡ g i → f j ≡ f i

pub classes_alike : {f g : ℕ → ℕ} {n : ℕ} {class : List ℕ} → Alike f g n → Classes f n class → Classes g n class
unfolding class_of
classes_alike {f} {g} {n} a c = record {
  room = c.room;
  each = λ i l. c.each i l
      ∙ first_agrees (λ j. eqb (f j) (f i)) (λ j. eqb (g j) (g i)) i
      (λ j h. agree (says_eqb (f j) (f i)) (says_eqb (g j) (g i)) (a.to j i h l) (a.from j i h l));
}
