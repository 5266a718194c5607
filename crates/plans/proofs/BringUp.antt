-- Laws of what specs/BringUp.antt defines.
use Rattle.std.specs.Prelude.{ℕ, ◌+◌, ◌-◌, ◌<◌, List, ◌≡◌, length, get_or}
use Rattle.std.proofs.Math.Path.{ap}
use Rattle.std.proofs.Common.{◌∙◌, arith, ext_get_or}
use Rattle.lists.specs.First.{first_passed, first_holds}
use Rattle.lists.specs.Says.{either_side}
use Rattle.orders.specs.Permutation.{Permutation, level_of}
use Rattle.plans.specs.Inversions.{Adjacent}
use Rattle.plans.specs.Misplaced.{Difference, p_inside, p_elsewhere, p_unsettled, target_level, q_elsewhere, q_unsettled}
use Rattle.plans.specs.Plans.{Lawful, differs_at}
use Rattle.plans.proofs.Plans.{differs_says, level_same}
use Rattle.plans.specs.BringUp.{bring_up, first_difference}

-- ---- it names an adjacent inverted pair

module _ (o g : List ℕ) (h : Permutation o) (i : Permutation g) (e : length o ≡ length g) (d : o ≡ g → ⊥) where
  -- the first level that differs
  abbrev k : ℕ
  k = first_difference o g

  -- the level where the order has the target's variable of level k
  abbrev p : ℕ
  p = level_of o (get_or g k 0)

  -- above level k the two agree
  agree : (j : ℕ) → j < k → get_or o j 0 ≡ get_or g j 0
  unfolding first_difference
  agree j l = level_same o g j ((first_passed (differs_at o g) (length o)).at j l)

  pub difference_inside : k < length o
  difference_inside = either_side k (length o) (λ l. l) (λ l. absurd (d (ext_get_or 0 o g e (λ j m. agree j (omega arith)))))

  above_settled : Difference o g (λ j. j < k) k
  unfolding first_difference
  above_settled = record {
    inside = difference_inside;
    differ = (differs_says o g _).yes (first_holds (differs_at o g) (length o) difference_inside);
    agree = agree;
  }

  -- so the order has that variable below level k
  p_below : k < p
  p_below = let z = p_elsewhere h i e above_settled in let s = p_unsettled h i e above_settled in omega arith

  -- and the target has the variable above it below level k too
  above_below : k < level_of g (get_or o (p - 1) 0)
  above_below =
      let w = above_settled in
      let l : p - 1 < length o = omega (arith, p_inside h i e w) in
      let other : p - 1 ≡ p → ⊥ = λ z. omega (arith, p_below) in
      let z = q_elsewhere h i e w (p - 1) l other in
      let s = q_unsettled h i e w (p - 1) l other (λ (b : p - 1 < k). omega (arith, p_below)) in
      omega arith

  brings_up : Adjacent o g (bring_up o g)
  unfolding bring_up
  brings_up =
      let w = above_settled in
      let z : p - 1 + 1 ≡ p = omega (arith, p_below) in
      let lower : level_of g (get_or o (p - 1 + 1) 0) ≡ k = ap (λ (x : ℕ). level_of g (get_or o x 0)) z ∙ target_level h i e w in
      record { within = omega (arith, p_inside h i e w, p_below); inversion = rw lower above_below }

  -- there is a level above p
  pub bring_up_below : 0 < p
  bring_up_below = omega (arith, p_below)

pub bring_up_lawful : Lawful bring_up
bring_up_lawful = record { names_inversion = brings_up }
