-- A walk along a chain, from its newest entry back, finds what a search through all entries finds: the first that passes a test.
use Rattle.std.specs.Prelude.{ℕ, suc, ◌+◌, ◌≤◌, ◌<◌, Bool, true, false, Option, Some, None, List, ◌≡◌, length, get_or}
use Rattle.std.proofs.Common.{refl, ap, sym, ◌∙◌, ⊎_elim, arith, rules}
use Rattle.lists.specs.Apart.{apart}
use Rattle.lists.specs.Found.{found, found_or, found_at, found_none}
use Rattle.lists.specs.Says.{decided, denies, either_side, says_eqb, says_itself}
use Rattle.chains.specs.Chains.{Chained, entry_in, standing, standing_in, newest, newest_within, newest_lies, newest_passed}

-- only entries of bucket b pass
pub record Only (q : ℕ → Bool) (bucket : ℕ → ℕ) (b : ℕ) : Type 0 where
  pub lies : (j : ℕ) → q j ≡ true → bucket j ≡ b

-- ---- a walk along bucket b, at an entry or past the last one: seen is the first entry after it that passes
pub record Walk (q : ℕ → Bool) (bucket : ℕ → ℕ) (b n : ℕ) (entry seen : Option ℕ) : Type 0 where
  pub only : Only q bucket b
  pub lies : (j : ℕ) → standing entry ≡ suc j → bucket j ≡ b
  pub below : standing entry ≤ found_or seen n
  pub within : found_or seen n ≤ n
  pub holds : (j : ℕ) → seen ≡ Some j → (j < n) × (q j ≡ true)
  pub passed : (j : ℕ) → standing entry ≤ j → j < found_or seen n → q j ≡ false

-- steps are counted: with those that may still come there are no more than entries
pub steps_begin : {bucket : ℕ → ℕ} {size n : ℕ} {head link : List ℕ} {b : ℕ} {entry : Option ℕ} → Chained bucket size n head link
    → entry ≡ entry_in (get_or head b 0) → b < length head → 0 + standing entry ≤ n
steps_begin {bucket} {size} {n} {head} {link} {b} c p h = omega (arith, ap standing p, standing_in (get_or head b 0), c.heads b h, newest_within bucket b n)

here : {entry : Option ℕ} {j : ℕ} → entry ≡ Some j → standing entry ≡ suc j
here is = ap standing is

module _ {q : ℕ → Bool} {bucket : ℕ → ℕ} {size n : ℕ} {head link : List ℕ} {b : ℕ} (c : Chained bucket size n head link) where
  pub walk_begins : {entry : Option ℕ} → Only q bucket b → entry ≡ entry_in (get_or head b 0) → b < length head → Walk q bucket b n entry None
  walk_begins {entry} only p h = record {
    only = only;
    lies = λ j z. newest_lies bucket b n j (sym at ∙ z);
    below = rw at (newest_within bucket b n);
    within = omega arith;
    holds = λ j z. apart (cc);
    passed = λ j l m. denies (says_itself (q j)) (λ t. newest_passed bucket b n j (rw at at l) m (only.lies j t));
  }
    where
      at : standing entry ≡ newest bucket b n
      at = ap standing p ∙ standing_in (get_or head b 0) ∙ c.heads b h

  module _ {entry seen entry' : Option ℕ} {j : ℕ} (w : Walk q bucket b n entry seen) (is : entry ≡ Some j) (p : entry' ≡ entry_in (get_or link j 0)) where
    next : standing entry' ≡ newest bucket b j
    next =
        ap standing p ∙ standing_in (get_or link j 0)
        ∙ c.links j (omega (arith, here is, w.below, w.within))
        ∙ ap (λ a. newest bucket a j) (w.lies j (here is))

    -- the chain leads back
    pub walk_falls : standing entry' < standing entry
    walk_falls = omega (arith, here is, next, newest_within bucket b j)

    pub steps_go : (met : ℕ) → met + standing entry ≤ n → met + 1 + standing entry' ≤ n
    steps_go met h = omega (arith, walk_falls)

    between : (k : ℕ) → standing entry' ≤ k → k < j → q k ≡ false
    between k l m = denies (says_itself (q k)) (λ s. newest_passed bucket b j k (rw next at l) m (w.only.lies k s))

    pub walk_finds : {f : Bool} → f ≡ q j → f ≡ true → Walk q bucket b n entry' (Some j)
    walk_finds t e = record {
      only = w.only;
      lies = λ k z. newest_lies bucket b j k (sym next ∙ z);
      below = omega (arith, next, newest_within bucket b j);
      within = omega (arith, here is, w.below, w.within);
      holds = λ k z. let s : j ≡ k = cc in rw (← s) (omega (arith, here is, w.below, w.within), sym t ∙ e);
      passed = λ k l m. between k l m;
    }

    pub walk_passes : {f : Bool} → f ≡ q j → f ≡ false → Walk q bucket b n entry' seen
    walk_passes t e = record {
      only = w.only;
      lies = λ k z. newest_lies bucket b j k (sym next ∙ z);
      below = omega (arith, here is, next, newest_within bucket b j, w.below);
      within = w.within;
      holds = w.holds;
      passed = λ k l m. either_side k j (between k l) (λ o. from k o m);
    }
      where
        from : (k : ℕ) → j ≤ k → k < found_or seen n → q k ≡ false
        from k o m = ⊎_elim (λ z. rw z (sym t ∙ e)) (λ d. w.passed k (omega (arith, here is)) m) (decided (says_eqb k j))

pub walk_ends : {q : ℕ → Bool} {bucket : ℕ → ℕ} {b n : ℕ} {entry seen : Option ℕ} → Walk q bucket b n entry seen → entry ≡ None → seen ≡ found q n
walk_ends {q} {bucket} {b} {n} {entry} {seen} w z = go seen w.holds w.passed
  where
    past : standing entry ≡ 0
    past = ap standing z

    go : (o : Option ℕ) → ((j : ℕ) → o ≡ Some j → (j < n) × (q j ≡ true)) → ((j : ℕ) → standing entry ≤ j → j < found_or o n → q j ≡ false)
        → o ≡ found q n
    go None h p = sym (found_none q n (record { at = λ k l. p k (omega (arith, past)) l }))
    go (Some j) h p = let s = h j refl in sym (found_at q n j (record { at = λ k l. p k (omega (arith, past)) l }) s.1 s.0)

-- `search walking` answers every need of such a loop, once it is told that only entries of the bucket pass
pub ruleset walking = (walk_begins, walk_falls, walk_finds, walk_passes, walk_ends, steps_begin, steps_go, rules)
