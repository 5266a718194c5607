-- Laws of what specs/SinkDown.antt defines.
use Rattle.std.specs.Prelude.{ℕ, ◌+◌, ◌<◌, List, ◌≡◌, length, get_or}
use Rattle.std.proofs.Common.{arith}
use Rattle.lists.specs.First.{first_holds}
use Rattle.lists.specs.Last.{Found, last_found, last_passed}
use Rattle.orders.specs.Permutation.{Permutation, level_of}
use Rattle.plans.specs.Inversions.{Adjacent}
use Rattle.plans.specs.Misplaced.{Difference, p_inside, p_elsewhere, p_unsettled, target_level, q_inside, q_elsewhere, q_unsettled}
use Rattle.plans.specs.Plans.{Lawful, differs_at}
use Rattle.plans.proofs.Plans.{differs_says, level_same}
use Rattle.plans.specs.BringUp.{first_difference}
use Rattle.plans.proofs.BringUp.{difference_inside}
use Rattle.plans.specs.SinkDown.{last_difference, sink_down}

-- ---- it names an adjacent inverted pair

module _ (o g : List ℕ) (h : Permutation o) (i : Permutation g) (e : length o ≡ length g) (d : o ≡ g → ⊥) where
  -- the last level that differs
  abbrev k : ℕ
  k = last_difference o g

  -- the level where the order has the target's variable of level k
  abbrev p : ℕ
  p = level_of o (get_or g k 0)

  -- there is one, since there is a first
  found : Found (differs_at o g) (length o) k
  unfolding last_difference first_difference
  found =
      let l = difference_inside o g h i e d in
      last_found (differs_at o g) (length o) (first_difference o g) l (first_holds (differs_at o g) (length o) l)

  pub last_inside : k < length o
  last_inside = found.below

  -- below level k the two agree
  below_settled : Difference o g (λ j. (k < j) × (j < length o)) k
  unfolding last_difference
  below_settled = record {
    inside = last_inside;
    differ = (differs_says o g _).yes found.holds;
    agree = λ j w. level_same o g j (last_passed (differs_at o g) (length o) j w.0 w.1);
  }

  -- so the order has that variable above level k
  p_above : p < k
  p_above =
      let w = below_settled in
      let l = p_inside h i e w in
      let z = p_elsewhere h i e w in
      let s : k < p → ⊥ = λ b. p_unsettled h i e w (b, l) in
      omega arith

  -- and the target has the variable below it above level k too
  below_above : level_of g (get_or o (p + 1) 0) < k
  below_above =
      let w = below_settled in
      let l : p + 1 < length o = omega (arith, p_above, last_inside) in
      let other : p + 1 ≡ p → ⊥ = λ z. omega arith in
      let m = q_inside h i e w (p + 1) l other in
      let z = q_elsewhere h i e w (p + 1) l other in
      let s : k < level_of g (get_or o (p + 1) 0) → ⊥ = λ b. q_unsettled h i e w (p + 1) l other (λ c. omega (arith, p_above)) (b, m) in
      omega arith

  sinks_down : Adjacent o g (sink_down o g)
  unfolding sink_down
  sinks_down =
      let turned : level_of g (get_or o (p + 1) 0) < level_of g (get_or o p 0) = rw (target_level h i e below_settled) below_above in
      record { within = omega (arith, p_above, last_inside); inversion = turned }

pub sink_down_lawful : Lawful sink_down
sink_down_lawful = record { names_inversion = sinks_down }
