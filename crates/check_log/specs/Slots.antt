-- Each entry that lies within the table and the order has a slot of its own: a record its number, a pair its level past the records.
-- Marked slots say what an entry repeats, so that no entry is compared with all before it.
use Rattle.std.specs.Prelude.{ℕ, ◌+◌, ◌-◌, ◌*◌, ◌≤◌, ◌<◌, Bool, true, false, cond, ◌&&◌, ◌||◌, List, ◌≡◌, refl, eqb, leb, length, get_or, set}
use Rattle.std.proofs.Math.Path.{ap, sym}
use Rattle.std.proofs.Common.{◌∙◌, add-one, arith, length-set, get_or-set_same, get_or-set_other, eqb-true, eq-eqb, ne_eqb, ltb-false, leb-false}
use Rattle.std.proofs.Math.Dec.{ltb}
use Rattle.std.proofs.lemmas.Bool.{eqb-false}
use Rattle.lists.specs.First.{any, Passed, passed_more, first_agrees, any_more}
use Rattle.lists.specs.Truth.{or_neither, or_true, or_false}
use Rattle.diagrams.specs.Layout.{most_records}
use Rattle.orders.specs.Permutation.{ceiling}
use Rattle.undo.specs.Log.{entry_size, kind_at, number_at}
use Rattle.check_log.specs.BadLog.{nonzero, some_byte, bad_log_size, bad_seal, malformed, past, repeats, bad_entry}

unfoldable pub misplaced : List ℕ → ℕ → ℕ → ℕ → Bool
misplaced log N n k = malformed log k || past log N n k

unfoldable pub slot_at : List ℕ → ℕ → ℕ → ℕ
slot_at log N k = cond (eqb (kind_at log k) 0) (number_at log k) (N + number_at log k)

-- one for each record, and one for each level
abbrev pub slots : ℕ
slots = most_records + ceiling

-- what the code asks for: a log whose length and seal are right; a table and an order whose entries have slots
abbrev pub Sized : List ℕ → Type 0
Sized log = (bad_log_size log ≡ false) × (bad_seal log ≡ false)

abbrev pub Placeable : ℕ → ℕ → Type 0
Placeable N n = (1 ≤ n) × (N + n ≤ slots)

abbrev pub is_marked : List Bool → ℕ → Bool
is_marked l x = get_or l x false

-- ---- an entry that is well formed and in its place

pub record Placed (kind number N n : ℕ) : Type 0 where
  pub known : kind ≤ 1
  pub in_table_lem : kind ≡ 0 → number < N
  pub in_order_lem : (kind ≡ 0 → ⊥) → number < n - 1

pub placed : (log : List ℕ) (N n k : ℕ) → misplaced log N n k ≡ false → Placed (kind_at log k) (number_at log k) N n
unfolding misplaced malformed past
placed log N n k e =
    let first = nonzero log (entry_size * k) in
    let other = ltb 1 (kind_at log k) in
    let last = some_byte log (entry_size * k + 12) 4 in
    let six = eqb (kind_at log k) 1 && some_byte log (entry_size * k + 6) 6 in
    let beyond = cond (eqb (kind_at log k) 0) (leb N (number_at log k)) (leb (n - 1) (number_at log k)) in
    let both = or_neither (first || other || last || six) beyond e in
    let formed = or_neither (first || other) last (or_neither (first || other || last) six both.0).0 in
    record {
      known = ltb-false 1 (kind_at log k) (or_neither first other formed.0).1;
      in_table_lem = λ z. leb-false N (number_at log k) (rw (eq-eqb (kind_at log k) 0 z) at both.1);
      in_order_lem = λ z. leb-false (n - 1) (number_at log k) (rw (ne_eqb (kind_at log k) 0 z) at both.1);
    }

-- two such entries are of one thing exactly where they have one slot
same_slot : (N n j k a b : ℕ) → Placed j a N n → Placed k b N n → (eqb j k && eqb a b) ≡ eqb (cond (eqb j 0) a (N + a)) (cond (eqb k 0) b (N + b))
same_slot N n j k a b p q = go (eqb j 0) (eqb k 0) refl refl
  where
    other : (i : ℕ) → i ≤ 1 → (i ≡ 0 → ⊥) → i ≡ 1
    other i h d = omega arith

    shifted : eqb a b ≡ eqb (N + a) (N + b)
    shifted = sh (eqb a b) refl
      where
        sh : (c : Bool) → eqb a b ≡ c → c ≡ eqb (N + a) (N + b)
        sh true e = let z : a ≡ b = eqb-true a b e in sym (eq-eqb (N + a) (N + b) (ap (λ x. N + x) z))
        sh false e = sym (ne_eqb (N + a) (N + b) (λ z. eqb-false a b e (omega arith)))

    go : (x y : Bool) → eqb j 0 ≡ x → eqb k 0 ≡ y → (eqb j k && eqb a b) ≡ eqb (cond x a (N + a)) (cond y b (N + b))
    go true true e f = rw (eq-eqb j k (eqb-true j 0 e ∙ sym (eqb-true k 0 f)))
    go true false e f =
        let z : j ≡ 0 = eqb-true j 0 e in
        let w : k ≡ 0 → ⊥ = eqb-false k 0 f in
        rw (ne_eqb j k (λ u. w (sym u ∙ z)), ne_eqb a (N + b) (λ u. omega (arith, p.in_table_lem z)))
    go false true e f =
        let z : k ≡ 0 = eqb-true k 0 f in
        let w : j ≡ 0 → ⊥ = eqb-false j 0 e in
        rw (ne_eqb j k (λ u. w (u ∙ z)), ne_eqb (N + a) b (λ u. omega (arith, q.in_table_lem z)))
    go false false e f = rw (eq-eqb j k (other j p.known (eqb-false j 0 e) ∙ sym (other k q.known (eqb-false k 0 f)))) shifted

-- ---- marking

mark : (l : List Bool) (y x : ℕ) → x < length l → is_marked (set l y true) x ≡ (is_marked l x || eqb y x)
mark l y x h = go (eqb y x) refl
  where
    go : (b : Bool) → eqb y x ≡ b → is_marked (set l y true) x ≡ (is_marked l x || b)
    go true e = let p : y ≡ x = eqb-true y x e in rw (p, get_or-set_same l x true false h) (or_true (is_marked l x))
    go false e = rw (get_or-set_other l y x true false (λ q. eqb-false y x e (sym q))) (or_false (is_marked l x))

-- the first k entries are good, and their slots are marked
pub record Marked (log : List ℕ) (N n k : ℕ) (l : List Bool) : Type 0 where
  pub long : length l ≡ slots
  pub passed : Passed (bad_entry log N n) k
  pub noted : (x : ℕ) → x < slots → is_marked l x ≡ any (λ j. eqb (slot_at log N j) x) k

pub bad_parts : (log : List ℕ) (N n k : ℕ) → bad_entry log N n k ≡ (misplaced log N n k || repeats log k)
unfolding bad_entry misplaced
bad_parts log N n k = refl

good_placed : (log : List ℕ) (N n k : ℕ) → bad_entry log N n k ≡ false → misplaced log N n k ≡ false
good_placed log N n k e = (or_neither (misplaced log N n k) (repeats log k) (sym (bad_parts log N n k) ∙ e)).0

pub slot_small : (log : List ℕ) (N n k : ℕ) → N + n ≤ slots → misplaced log N n k ≡ false → slot_at log N k < slots
unfolding slot_at
slot_small log N n k h e = go (eqb (kind_at log k) 0) refl
  where
    p : Placed (kind_at log k) (number_at log k) N n
    p = placed log N n k e

    go : (b : Bool) → eqb (kind_at log k) 0 ≡ b → cond b (number_at log k) (N + number_at log k) < slots
    go true q = omega (arith, p.in_table_lem (eqb-true (kind_at log k) 0 q))
    go false q = omega (arith, p.in_order_lem (eqb-false (kind_at log k) 0 q))

-- the mark at its slot says whether an entry repeats an earlier one
module _ (log : List ℕ) (N n k : ℕ) (l : List Bool) (room : N + n ≤ slots) (m : Marked log N n k l) (e : misplaced log N n k ≡ false) where
  repeats_says : repeats log k ≡ is_marked l (slot_at log N k)
  unfolding repeats slot_at
  repeats_says =
      ap (λ i. ltb i k)
      (first_agrees _ _ k (λ j h. same_slot N n (kind_at log j) (kind_at log k) (number_at log j) (number_at log k)
      (placed log N n j (good_placed log N n j (m.passed.at j h))) (placed log N n k e)))
      ∙ sym (m.noted (slot_at log N k) (slot_small log N n k room e))

  pub entry_says : bad_entry log N n k ≡ is_marked l (slot_at log N k)
  entry_says = bad_parts log N n k ∙ rw e repeats_says

  pub marks_more : is_marked l (slot_at log N k) ≡ false → Marked log N n (k + 1) (set l (slot_at log N k) true)
  marks_more z =
      record {
        long = length-set l (slot_at log N k) true ∙ m.long;
        passed = passed_more m.passed (entry_says ∙ z);
        noted =
            λ x q. mark l (slot_at log N k) x (rw m.long q)
            ∙ ap (λ b. b || eqb (slot_at log N k) x) (m.noted x q)
            ∙ sym (any_more (λ j. eqb (slot_at log N j) x) k)
            ∙ ap (any (λ j. eqb (slot_at log N j) x)) (sym (add-one k));
      }
