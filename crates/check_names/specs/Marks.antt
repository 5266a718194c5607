-- How check 9 is made: marking what is named, and that the marks then say what the check asks.
use Rattle.std.specs.Prelude.{ℕ, ◌+◌, ◌<◌, ◌≤◌, Bool, true, false, cond, not, ◌&&◌, ◌||◌, List, ◌≡◌, refl, eqb, length, get_or, set}
use Rattle.std.proofs.Common.{ap, sym, ◌∙◌, arith, eqb-true, length-set, get_or-set_same, get_or-set_other}
use Rattle.std.proofs.lemmas.Bool.{eqb-false}
use Rattle.lists.specs.First.{any}
use Rattle.lists.specs.Found.{found, found_agrees}
use Rattle.lists.specs.Fold.{fold}
use Rattle.lists.specs.Truth.{or_true, or_false}
use Rattle.diagrams.specs.Layout.{most_records, records, root_count, low_at, high_at, is_used, root_at}
use Rattle.diagrams.specs.Noting.{root_names, record_names, no_notes, length_no_notes, no_note, roots_long, roots_has, records_has}
use Rattle.check_names.specs.Names.{idle}

-- the marks after root k, and after record i
unfoldable pub marked_root : List ℕ → List ℕ → ℕ → List ℕ
marked_root r l k = set l (root_at r k) 1

unfoldable pub marked_record : List ℕ → List ℕ → ℕ → List ℕ
marked_record t l i = cond (is_used t i) (set (set l (low_at t i) 1) (high_at t i) 1) l

-- the marks after all roots and all records
unfoldable pub marks_of : List ℕ → List ℕ → List ℕ
marks_of t r = fold (marked_record t) (fold (marked_root r) no_notes (root_count r)) (records t)

-- a used record whose reference has no mark
unfoldable pub unmarked : List ℕ → List ℕ → ℕ → Bool
unmarked t l i = is_used t i && not (eqb (get_or l (i + 2) 0) 1)

-- ---- what a mark says

abbrev mark : List ℕ → ℕ → List ℕ
mark l y = set l y 1

abbrev marked : List ℕ → ℕ → Bool
marked l x = eqb (get_or l x 0) 1

mark_long : (l : List ℕ) (y : ℕ) → length (mark l y) ≡ length l
mark_long l y = simp length-set

mark_has : (l : List ℕ) (y x : ℕ) → x < length l → marked (mark l y) x ≡ (marked l x || eqb y x)
mark_has l y x h = go (eqb y x) refl
  where
    go : (b : Bool) → eqb y x ≡ b → marked (mark l y) x ≡ (marked l x || b)
    go true e = let p : y ≡ x = eqb-true y x e in rw (p, get_or-set_same l x 1 0 h) (or_true (marked l x))
    go false e = rw (get_or-set_other l y x 1 0 (λ q. eqb-false y x e (sym q))) (or_false (marked l x))

-- the marks say what is named
marks_say : (t r : List ℕ) (x : ℕ) → x < most_records + 2
    → marked (marks_of t r) x ≡ (any (root_names r x) (root_count r) || any (record_names t x) (records t))
unfolding marks_of marked_root marked_record record_names
marks_say t r x h =
    records_has mark marked mark_long mark_has t (is_used t) (fold (marked_root r) no_notes (root_count r)) (records t) x
    (rw (roots_long mark marked mark_long mark_has r no_notes (root_count r), length_no_notes) h)
    ∙ ap (λ b. b || any (record_names t x) (records t))
    (roots_has mark marked mark_long mark_has r no_notes (root_count r) x (rw length_no_notes h)
    ∙ ap (λ v. eqb v 1 || any (root_names r x) (root_count r)) (no_note x h))

-- so the first unmarked record is the first idle one
pub unmarked_idle : (t r : List ℕ) → records t ≤ most_records → found (unmarked t (marks_of t r)) (records t) ≡ found (idle t r) (records t)
unfolding unmarked idle
unmarked_idle t r h =
    found_agrees (unmarked t (marks_of t r)) (idle t r) (records t) (λ i l. ap (λ b. is_used t i && not b) (marks_say t r (i + 2) (omega arith)))
