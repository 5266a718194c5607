-- The level that a plan names where order and target differ, and whether they do, by a search for a level where they do.
use Rattle.std.specs.Prelude.{ℕ, ◌<◌, Bool, true, false, not, cond, List, Some, None, ◌≡◌, refl, length}
use Rattle.std.proofs.Common.{ap, sym, lt-ltb, le-ltb, le_refl}
use Rattle.lists.specs.Apart.{apart}
use Rattle.lists.specs.First.{Passed, first_below, first_none}
use Rattle.lists.specs.Found.{found, some_found, none_found}
use Rattle.plans.specs.Plans.{Plan, differs_at, same?, next_level}
use Rattle.plans.specs.FoundLast.{found_last, some_last, none_last}
use Rattle.plans.specs.BringUp.{first_difference}
use Rattle.plans.specs.SinkDown.{last_difference}

-- ---- whether the two differ, by a search for a level where they do

differ_somewhere : (o g : List ℕ) (k : ℕ) → k < length o → differs_at o g k ≡ true → same? o g ≡ false
unfolding same?
differ_somewhere o g k l t = ap not (lt-ltb _ _ (first_below (differs_at o g) (length o) k l t))

differ_nowhere : (o g : List ℕ) → Passed (differs_at o g) (length o) → same? o g ≡ true
unfolding same?
differ_nowhere o g h = rw (first_none (differs_at o g) (length o) h, le-ltb (length o) (length o) (le_refl (length o)))

module _ (o g : List ℕ) {n : ℕ} (e : length o ≡ n) where
  pub first_named : {k : ℕ} → Some k ≡ found (differs_at o g) n → (k < n) × (same? o g ≡ false) × (k ≡ first_difference o g)
  unfolding first_difference
  first_named {k} s =
      let w = some_found (sym s) in
      (w.0, differ_somewhere o g k (rw e w.0) w.1, rw e w.3)

  pub none_first : None ≡ found (differs_at o g) n → same? o g ≡ true
  none_first s = differ_nowhere o g (rw e (none_found (sym s)))

  pub last_named : {k : ℕ} → Some k ≡ found_last (differs_at o g) n → (k < n) × (same? o g ≡ false) × (k ≡ last_difference o g)
  unfolding last_difference
  last_named {k} s =
      let w = some_last (differs_at o g) n (sym s) in
      (w.0, differ_somewhere o g k (rw e w.0) w.1, rw e w.2)

  pub none_last_named : None ≡ found_last (differs_at o g) n → same? o g ≡ true
  none_last_named s = differ_nowhere o g (rw e (none_last (differs_at o g) n (sym s)))

-- ---- the level that a plan names, where order and target differ

module _ (plan : Plan) (o g : List ℕ) where
  pub next_some : {k : ℕ} → same? o g ≡ false → k ≡ plan o g → Some k ≡ next_level plan o g
  unfolding next_level
  next_some d e = rw d (ap Some e)

  pub next_none : same? o g ≡ true → None ≡ next_level plan o g
  unfolding next_level
  next_none e = rw e

  pub some_next : {k : ℕ} → Some k ≡ next_level plan o g → (same? o g ≡ false) × (k ≡ plan o g)
  unfolding next_level
  some_next {k} h = by (same? o g) refl (sym h)
    where
      by : (b : Bool) → same? o g ≡ b → cond b None (Some (plan o g)) ≡ Some k → (same? o g ≡ false) × (k ≡ plan o g)
      by true e q = apart (cc)
      by false e q = (e, cc)

  pub none_next : None ≡ next_level plan o g → same? o g ≡ true
  unfolding next_level
  none_next h = by (same? o g) refl (sym h)
    where
      by : (b : Bool) → same? o g ≡ b → cond b None (Some (plan o g)) ≡ None → same? o g ≡ true
      by true e q = e
      by false e q = apart (cc)
