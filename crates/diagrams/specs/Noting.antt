-- Who names a reference; and noting the references that are named in a list of numbers, one for each: `note l y` notes y, `has l x` says that x is noted.
use Prim.Native.Nat.{ℕ, zero, suc, ◌+◌, ◌<◌}
use Rattle.std.specs.Prelude.{Bool, true, false, cond, ◌&&◌, ◌||◌, List, ◌≡◌, eqb, length, get_or, replicate}
use Rattle.std.proofs.Math.Path.{refl, ap}
use Rattle.std.proofs.Common.{sym, ◌∙◌}
use Rattle.std.proofs.lemmas.List.{length-replicate, get_or-replicate}
use Rattle.lists.specs.First.{any, any_none, any_more}
use Rattle.lists.specs.Fold.{fold}
use Rattle.lists.specs.Truth.{or_false, or_assoc}
use Rattle.diagrams.specs.Layout.{most_records, low_at, high_at, is_used, root_at}

-- root k names x
unfoldable pub root_names : List ℕ → ℕ → ℕ → Bool
root_names r x k = eqb (root_at r k) x

-- record j is used and names x
unfoldable pub record_names : List ℕ → ℕ → ℕ → Bool
record_names t x j = is_used t j && (eqb (low_at t j) x || eqb (high_at t j) x)

-- nothing is noted yet: a zero for each reference that a full table can have
unfoldable pub no_notes : List ℕ
no_notes = replicate (most_records + 2) 0

pub length_no_notes : length no_notes ≡ most_records + 2
unfolding no_notes
length_no_notes = length-replicate {A = ℕ} (most_records + 2) 0

pub no_note : (x : ℕ) → x < most_records + 2 → get_or no_notes x 0 ≡ 0
unfolding no_notes
no_note x h = get_or-replicate {A = ℕ} (most_records + 2) x 0 0 h

-- ---- steps that each note the references they name: in the end the list has what some step names

module _ (has : List ℕ → ℕ → Bool) (f : List ℕ → ℕ → List ℕ) (names : ℕ → ℕ → Bool) (long : (l : List ℕ) (k : ℕ) → length (f l k) ≡ length l)
    (step : (l : List ℕ) (k x : ℕ) → x < length l → has (f l k) x ≡ (has l x || names x k)) where
  fold_long : (l : List ℕ) (k : ℕ) → length (fold f l k) ≡ length l
  unfolding fold
  fold_long l zero = refl
  fold_long l (suc k) = long (fold f l k) k ∙ fold_long l k

  fold_has : (l : List ℕ) (k x : ℕ) → x < length l → has (fold f l k) x ≡ (has l x || any (names x) k)
  unfolding fold
  fold_has l zero x h = rw any_none (or_false (has l x))
  fold_has l (suc k) x h =
      step (fold f l k) k x (rw (fold_long l k) h)
      ∙ ap (λ b. b || names x k) (fold_has l k x h)
      ∙ or_assoc (has l x) (any (names x) k) (names x k)
      ∙ ap (λ b. has l x || b) (sym (any_more (names x) k))

module _ (note : List ℕ → ℕ → List ℕ) (has : List ℕ → ℕ → Bool) (long : (l : List ℕ) (y : ℕ) → length (note l y) ≡ length l)
    (noted : (l : List ℕ) (y x : ℕ) → x < length l → has (note l y) x ≡ (has l x || eqb y x)) where
  -- by the roots
  module _ (r : List ℕ) where
    abbrev by_root : List ℕ → ℕ → List ℕ
    by_root l k = note l (root_at r k)

    root_has : (l : List ℕ) (k x : ℕ) → x < length l → has (by_root l k) x ≡ (has l x || root_names r x k)
    unfolding root_names
    root_has l k x h = noted l (root_at r k) x h

    pub roots_long : (l : List ℕ) (n : ℕ) → length (fold by_root l n) ≡ length l
    roots_long l n = fold_long has by_root (root_names r) (λ l k. long l (root_at r k)) root_has l n

    pub roots_has : (l : List ℕ) (n x : ℕ) → x < length l → has (fold by_root l n) x ≡ (has l x || any (root_names r x) n)
    roots_has l n x h = fold_has has by_root (root_names r) (λ l k. long l (root_at r k)) root_has l n x h

  -- by the records that pass
  module _ (t : List ℕ) (p : ℕ → Bool) where
    abbrev by_record : List ℕ → ℕ → List ℕ
    by_record l i = cond (p i) (note (note l (low_at t i)) (high_at t i)) l

    abbrev names : ℕ → ℕ → Bool
    names x i = p i && (eqb (low_at t i) x || eqb (high_at t i) x)

    record_long : (l : List ℕ) (i : ℕ) → length (by_record l i) ≡ length l
    record_long l i = go (p i)
      where
        go : (b : Bool) → length (cond b (note (note l (low_at t i)) (high_at t i)) l) ≡ length l
        go true = long (note l (low_at t i)) (high_at t i) ∙ long l (low_at t i)
        go false = refl

    record_has : (l : List ℕ) (i x : ℕ) → x < length l → has (by_record l i) x ≡ (has l x || names x i)
    record_has l i x h = go (p i)
      where
        go : (b : Bool) → has (cond b (note (note l (low_at t i)) (high_at t i)) l) x ≡ (has l x || (b && (eqb (low_at t i) x || eqb (high_at t i) x)))
        go true =
            noted (note l (low_at t i)) (high_at t i) x (rw (long l (low_at t i)) h)
            ∙ ap (λ b. b || eqb (high_at t i) x) (noted l (low_at t i) x h)
            ∙ or_assoc (has l x) (eqb (low_at t i) x) (eqb (high_at t i) x)
        go false = or_false (has l x)

    pub records_long : (l : List ℕ) (n : ℕ) → length (fold by_record l n) ≡ length l
    records_long l n = fold_long has by_record names record_long record_has l n

    pub records_has : (l : List ℕ) (n x : ℕ) → x < length l
        → has (fold by_record l n) x ≡ (has l x || any (λ i. p i && (eqb (low_at t i) x || eqb (high_at t i) x)) n)
    records_has l n x h = fold_has has by_record names record_long record_has l n x h
