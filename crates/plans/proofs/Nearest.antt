-- Laws of what specs/Nearest.antt defines.
use Rattle.std.specs.Prelude.{ℕ, ◌+◌, ◌-◌, ◌<◌, Bool, true, false, List, Option, Some, None, ◌≡◌, refl, get_or}
use Rattle.std.proofs.Math.Logic.{⊎_elim}
use Rattle.std.proofs.Common.{ap, sym, arith}
use Rattle.std.proofs.Math.ListN.{length}
use Rattle.lists.specs.First.{first, Passed, first_below, first_holds}
use Rattle.lists.specs.Found.{found, some_found, none_found}
use Rattle.lists.specs.Last.{Found, last, last_found}
use Rattle.lists.specs.Says.{denies, refutes}
use Rattle.lists.specs.Truth.{clash}
use Rattle.orders.specs.Permutation.{Permutation, level_of, level_of_at}
use Rattle.plans.specs.Inversions.{Adjacent, inverted_says, adjacent_inverted}
use Rattle.plans.specs.Plans.{Lawful, same?, next_level}
use Rattle.plans.specs.FoundLast.{found_last, some_last, none_last}
use Rattle.plans.proofs.Plans.{same_says}
use Rattle.plans.proofs.Next.{next_some, next_none}
use Rattle.plans.specs.BringUp.{bring_up}
use Rattle.plans.proofs.BringUp.{bring_up_lawful}
use Rattle.plans.specs.Nearest.{highest_inversion, inverted_at, lowest_inversion}

-- ---- they name an adjacent inverted pair

module _ (o g : List ℕ) (h : Permutation o) (i : Permutation g) (e : length o ≡ length g) (d : o ≡ g → ⊥) where
  -- such a pair that a search has found
  finds : {k : ℕ} → Found (inverted_at o g) (length o - 1) k → Adjacent o g k
  unfolding inverted_at
  finds {k} f =
      let l : k + 1 < length o = omega (arith, f.below) in
      let upper = level_of_at o k h (omega arith) in
      let lower = level_of_at o (k + 1) h l in
      record { within = l; inversion = ⊎_elim (λ w. w.1) (λ w. omega arith) ((inverted_says o g _ _).yes f.holds) }

  -- there is one to be found: Bring Up names one
  there : Found (inverted_at o g) (length o - 1) (bring_up o g)
  unfolding inverted_at
  there =
      let w = bring_up_lawful.names_inversion o g h i e d in
      record { below = omega (arith, w.within); holds = adjacent_inverted o g (bring_up o g) h w }

  lowest : Adjacent o g (lowest_inversion o g)
  unfolding lowest_inversion
  lowest = finds (last_found (inverted_at o g) (length o - 1) (bring_up o g) there.below there.holds)

  highest : Adjacent o g (highest_inversion o g)
  unfolding highest_inversion
  highest =
      let l = first_below (inverted_at o g) (length o - 1) (bring_up o g) there.below there.holds in
      finds (record { below = l; holds = first_holds (inverted_at o g) (length o - 1) l })

-- ---- there is such a pair where the two differ, and only there

module _ (o g : List ℕ) (h : Permutation o) (i : Permutation g) (e : length o ≡ length g) where
  pair_differs : (k : ℕ) → inverted_at o g k ≡ true → same? o g ≡ false
  unfolding inverted_at
  pair_differs k t =
      denies (same_says o g e) (λ (z : o ≡ g).
      ⊎_elim (λ w. omega (arith, ap (λ (x : List ℕ). level_of x (get_or o k 0)) z, ap (λ (x : List ℕ). level_of x (get_or o (k + 1) 0)) z))
      (λ w. omega (arith, ap (λ (x : List ℕ). level_of x (get_or o k 0)) z, ap (λ (x : List ℕ). level_of x (get_or o (k + 1) 0)) z))
      ((inverted_says o g _ _).yes t))

  no_pair : Passed (inverted_at o g) (length o - 1) → same? o g ≡ true
  no_pair p = by (same? o g) refl
    where
      by : (b : Bool) → same? o g ≡ b → b ≡ true
      by true q = refl
      by false q = let w = there o g h i e (refutes (same_says o g e) q) in clash w.holds (p.at _ w.below)

  pub lowest_next : {r : Option ℕ} → r ≡ found_last (inverted_at o g) (length o - 1) → r ≡ next_level lowest_inversion o g
  unfolding lowest_inversion
  lowest_next {r} s = by r s
    where
      by : (x : Option ℕ) → x ≡ found_last (inverted_at o g) (length o - 1) → x ≡ next_level (λ a b. last (inverted_at a b) (length a - 1)) o g
      by None q = next_none lowest_inversion o g (no_pair (none_last _ _ (sym q)))
      by (Some k) q = let w = some_last _ _ (sym q) in next_some lowest_inversion o g (pair_differs k w.1) w.2

  pub highest_next : {r : Option ℕ} → r ≡ found (inverted_at o g) (length o - 1) → r ≡ next_level highest_inversion o g
  unfolding highest_inversion
  highest_next {r} s = by r s
    where
      by : (x : Option ℕ) → x ≡ found (inverted_at o g) (length o - 1) → x ≡ next_level (λ a b. first (inverted_at a b) (length a - 1)) o g
      by None q = next_none highest_inversion o g (no_pair (none_found (sym q)))
      by (Some k) q = let w = some_found (sym q) in next_some highest_inversion o g (pair_differs k w.1) w.3

pub lowest_lawful : Lawful lowest_inversion
lowest_lawful = record { names_inversion = lowest }

pub highest_lawful : Lawful highest_inversion
highest_lawful = record { names_inversion = highest }
