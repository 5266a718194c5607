-- One pass over n entries, each of which goes to a slot: its class is the first entry that came there. A slot holds that entry's number plus 1; 0 is none.
use Rattle.std.specs.Prelude.{ℕ, suc, ◌+◌, ◌-◌, ◌*◌, ◌≤◌, ◌<◌, Bool, true, cond, List, ◌≡◌, refl, eqb, ltb, set, replicate}
use Rattle.std.proofs.Common.{sym, ◌∙◌, ⊎_elim, not-suc-le-zero, add-one, arith, eq-eqb, ne_eqb, lt-ltb, le-ltb, get_or-set_same, get_or-set_other}
use Rattle.std.proofs.Math.Path.{ap}
use borrow.Author.Count.{below_more}
use Rattle.std.proofs.Math.ListN.{length, get_or, length-set}
use Rattle.std.proofs.lemmas.List.{get_or-replicate}
use Rattle.lists.specs.First.{first, passed_more, first_at, first_none, first_passed, first_holds, first_within}
use Rattle.lists.specs.Says.{either_side, decided, says_eqb}
use Rattle.diagrams.specs.Layout.{most_records}
use Rattle.classes.specs.Classes.{class_of, Classes}

-- two slots for each record
abbrev pub slots : ℕ
slots = 2 * most_records

-- entry j goes to slot x
abbrev here : (ℕ → ℕ) → ℕ → ℕ → Bool
here place x j = eqb (place j) x

-- what slot x holds after n entries
unfoldable pub held : (ℕ → ℕ) → ℕ → ℕ → ℕ
held place x n = cond (ltb (first (here place x) n) n) (suc (first (here place x) n)) 0

-- what a slot that held s holds once entry i has come: what it held, or that entry where it held none
abbrev pub come : ℕ → ℕ → ℕ
come s i = cond (eqb s 0) (i + 1) s

module _ (place : ℕ → ℕ) (x n : ℕ) where
  held_none : n ≤ first (here place x) n → held place x n ≡ 0
  unfolding held
  held_none l = rw (le-ltb (first (here place x) n) n l)

  held_some : first (here place x) n < n → held place x n ≡ suc (first (here place x) n)
  unfolding held
  held_some l = rw (lt-ltb (first (here place x) n) n l)

  held_come : {s : ℕ} → s ≡ held place x n → come s n ≡ suc (first (here place x) n)
  held_come {s} e =
      either_side (first (here place x) n) n
      (λ l. let z : s ≡ suc (first (here place x) n) = e ∙ held_some l in rw (z, ne_eqb (suc (first (here place x) n)) 0 (λ q. omega arith)))
      (λ l. let z : s ≡ 0 = e ∙ held_none l in
      let q : first (here place x) n ≡ n = omega (arith, first_within (here place x) n) in rw (z, q, add-one))

-- one entry more
module _ (place : ℕ → ℕ) (x n : ℕ) where
  -- an entry that came first stays the first
  still : here place x (first (here place x) n) ≡ true → first (here place x) (n + 1) ≡ first (here place x) n
  still h = first_at (here place x) (n + 1) (first (here place x) n) (first_passed (here place x) n) h (omega (arith, first_within (here place x) n))

  held_here : place n ≡ x → held place x (n + 1) ≡ suc (first (here place x) n)
  held_here e = held_some place x (n + 1) (omega (arith, still holds, first_within (here place x) n)) ∙ ap suc (still holds)
    where
      holds : here place x (first (here place x) n) ≡ true
      holds =
          either_side (first (here place x) n) n
          (first_holds (here place x) n)
          (λ l. let q : first (here place x) n ≡ n = omega (arith, first_within (here place x) n) in
          eq-eqb (place (first (here place x) n)) x (ap place q ∙ e))

  held_there : (place n ≡ x → ⊥) → held place x (n + 1) ≡ held place x n
  held_there d =
      either_side (first (here place x) n) n
      (λ l. let same = still (first_holds (here place x) n l) in
      held_some place x (n + 1) (omega arith) ∙ ap suc same ∙ sym (held_some place x n l))
      (λ l. let q : first (here place x) n ≡ n = omega (arith, first_within (here place x) n) in
      let none = first_none (here place x) (n + 1) (passed_more (rw q at (first_passed (here place x) n)) (ne_eqb (place n) x d)) in
      held_none place x (n + 1) (omega arith) ∙ sym (held_none place x n l))

-- ---- entry i goes to slot x
pub record Entered (class slot : List ℕ) (i x : ℕ) (class' slot' : List ℕ) : Type 0 where
  pub slot_now : slot' ≡ set slot x (come (get_or slot x 0) i)
  pub class_now : class' ≡ set class i (come (get_or slot x 0) i - 1)

-- ---- a pass at entry i: those before it have their class by place
pub record Passing (place : ℕ → ℕ) (i : ℕ) (class slot : List ℕ) : Type 0 where
  pub done : (k : ℕ) → k < i → get_or class k 0 ≡ class_of place k
  pub holds : (x : ℕ) → x < slots → get_or slot x 0 ≡ held place x i

pub passing_begins : {place : ℕ → ℕ} {class slot : List ℕ} → slot ≡ replicate slots 0 → Passing place 0 class slot
unfolding held first
passing_begins e = record {
  done = λ k q. absurd (not-suc-le-zero q);
  holds = λ x q. rw e (get_or-replicate {A = ℕ} slots x 0 0 q);
}

-- entries from i on have what they had before the pass
pub record Kept (before class : List ℕ) (i : ℕ) : Type 0 where
  pub as_long : length class ≡ length before
  pub left : (k : ℕ) → i ≤ k → get_or class k 0 ≡ get_or before k 0

pub kept_begins : (class : List ℕ) → Kept class class 0
kept_begins class = record { as_long = refl; left = λ k l. refl }

module _ {class slot : List ℕ} {i x : ℕ} {class' slot' : List ℕ} (s : Entered class slot i x class' slot') where
  pub entered_slots : length slot' ≡ length slot
  entered_slots = ap length s.slot_now ∙ length-set slot x _

  other : (k : ℕ) → (k ≡ i → ⊥) → get_or class' k 0 ≡ get_or class k 0
  other k d = rw s.class_now (get_or-set_other class i k _ 0 d)

  pub kept_goes : {before : List ℕ} → Kept before class i → Kept before class' (i + 1)
  kept_goes c = record {
    as_long = ap length s.class_now ∙ length-set class i _ ∙ c.as_long;
    left = λ k l. other k (λ z. omega arith) ∙ c.left k (omega arith);
  }

  pub passing_goes : {place : ℕ → ℕ} → Passing place i class slot → x ≡ place i → i < length class → x < slots → length slot ≡ slots
      → Passing place (i + 1) class' slot'
  unfolding class_of
  passing_goes {place} p at l h long = record {
    done = below_more (λ k. get_or class' k 0 ≡ class_of place k) i (λ k h. other k (λ z. omega arith) ∙ p.done k h) now;
    holds = next;
  }
    where
      comes : come (get_or slot x 0) i ≡ suc (class_of place i)
      comes = held_come place x i (p.holds x h) ∙ ap (λ y. suc (first (here place y) i)) at

      now : get_or class' i 0 ≡ class_of place i
      now = rw (s.class_now, get_or-set_same class i (come (get_or slot x 0) i - 1) 0 l) (omega (arith, comes))

      next : (y : ℕ) → y < slots → get_or slot' y 0 ≡ held place y (i + 1)
      next y m =
          ⊎_elim
          (λ z. rw (s.slot_now, ← z, get_or-set_same slot x (come (get_or slot x 0) i) 0 (omega arith))
          (held_come place x i (p.holds x h) ∙ sym (held_here place x i (sym at))))
          (λ d. rw (s.slot_now, get_or-set_other slot x y _ 0 (λ z. d (sym z))) (p.holds y m ∙ sym (held_there place y i (λ z. d (at ∙ z)))))
          (decided (says_eqb x y))

pub passing_ends : {place : ℕ → ℕ} {n i : ℕ} {class slot : List ℕ} → Passing place i class slot → i ≡ n → n ≤ length class → Classes place n class
passing_ends p e h = record { room = h; each = λ k l. p.done k (omega arith) }
