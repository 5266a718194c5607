-- What each function's return is, over plain variables.
use Rattle.std.specs.Prelude.{ℕ, ◌+◌, ◌-◌, ◌≤◌, ◌<◌, Bool, not, List, Option, Some, None, ◌≡◌, eqb, ltb, length, get_or, take}
use Rattle.std.proofs.Common.{ap, ap₂, sym, ◌∙◌, arith, length-take-le, get_or-take}
use lib.Pointwise.{pointwise, bytes_decides}
use Rattle.lists.specs.Found.{found}
use Rattle.lists.specs.Count.{count}
use Rattle.lists.specs.Total.{total, pairs}
use Rattle.lists.specs.Says.{agree}
use Rattle.orders.specs.Permutation.{ceiling, level_of}
use Rattle.orders.specs.Order.{level_in}
use Rattle.orders.specs.Arranged.{bytes_of, Arranged, arranged_length, arranged_level, arranged_same_length}
use Rattle.orders.specs.declared.Order.{Order}
use Rattle.plans.specs.FoundLast.{found_last}
use Rattle.plans.specs.Inversions.{above, inverted, left}
use Rattle.plans.specs.Plans.{Plan, differs_at, same?, next_level}
use Rattle.plans.specs.BringUp.{first_difference, bring_up}
use Rattle.plans.specs.SinkDown.{sink_down}
use Rattle.plans.specs.Nearest.{inverted_at, lowest_inversion, highest_inversion}
use Rattle.plans.specs.Numbered.{meant}
use Rattle.plans.specs.declared.Plan as coded
use Rattle.plans.proofs.Plans.{same_says}
use Rattle.plans.proofs.Next.{first_named, none_first, last_named, none_last_named, next_some, next_none}
use Rattle.plans.proofs.BringUp.{bring_up_below}
use Rattle.plans.proofs.Nearest.{lowest_next, highest_next}
use Rattle.plans.proofs.Towards.{arranged_differ}

-- ---- do the two agree?

pub same_returns : (o g : List ℕ) (n : ℕ) {r : Bool} → n ≤ ceiling → length o ≡ ceiling → length g ≡ ceiling
    → r ≡ pointwise eqb (take n o) (take n g) → r ≡ same? (take n o) (take n g)
same_returns o g n c l m e =
    let same = bytes_decides (take n o) (take n g) in
    let long : length (take n o) ≡ length (take n g) = length-take-le n o (rw l c) ∙ sym (length-take-le n g (rw m c)) in
    e ∙ agree (record { yes = same.0; no = same.1 }) (same_says (take n o) (take n g) long) (λ p. p) (λ p. p)

-- ---- levels and what stands there

pub differs_returns : (o g : List ℕ) (n k : ℕ) → k < n → not (eqb (get_or o k 0) (get_or g k 0)) ≡ differs_at (take n o) (take n g) k
unfolding differs_at
differs_returns o g n k l = rw (get_or-take n o k 0 l, get_or-take n g k 0 l)

pub above_returns : {o : Order} {n i j : ℕ} (u v : ℕ)
    → Arranged o n → i ≡ level_in o.levels n u → j ≡ level_in o.levels n v → ltb i j ≡ above (bytes_of o n) u v
above_returns u v h e f = ap₂ ltb (e ∙ arranged_level h u) (f ∙ arranged_level h v)

pub inverted_at_returns : (o g : Order) (n k : ℕ) {b : Bool} {u v : ℕ} → k + 1 < n → u ≡ get_or o.variables k 0 → v ≡ get_or o.variables (k + 1) 0
    → b ≡ inverted (bytes_of o n) (bytes_of g n) u v → b ≡ inverted_at (bytes_of o n) (bytes_of g n) k
unfolding inverted_at
inverted_at_returns o g n k l e f q = rw (get_or-take n o.variables k 0 (omega arith), get_or-take n o.variables (k + 1) 0 l, ← e, ← f) q

pub level_returns : {o : Order} (g : Order) {n k v p : ℕ} → Arranged o n → k < n → v ≡ get_or g.variables k 0 → p ≡ level_in o.levels n v
    → p ≡ level_of (bytes_of o n) (get_or (bytes_of g n) k 0)
level_returns g {n} {k} {v} h l f q = rw (get_or-take n g.variables k 0 l, ← f) (q ∙ arranged_level h v)

pub left_returns : {o : Order} (g : Order) {n v k : ℕ} → Arranged o n → v ≡ n → k ≡ total (λ x. count (λ u. inverted (bytes_of o n) (bytes_of g n) u x) x) v
    → k ≡ left (bytes_of o n) (bytes_of g n)
unfolding left pairs
left_returns {o} g {n} h z e =
    rw (arranged_length h) (e ∙ ap (total (λ x. count (λ u. inverted (bytes_of o n) (bytes_of g n) u x) x)) z)

-- ---- Bring Up and Sink Down: k is a level that differs, p the level where the order has the target's variable of it

module _ {o g : Order} {n : ℕ} (a : (Arranged o n) × (Arranged g n)) where
  module _ (plan : Plan) where
    pub nowhere_first : None ≡ found (differs_at (bytes_of o n) (bytes_of g n)) n → None ≡ next_level plan (bytes_of o n) (bytes_of g n)
    nowhere_first s = next_none plan _ _ (none_first _ _ (arranged_length a.0) s)

    pub nowhere_last : None ≡ found_last (differs_at (bytes_of o n) (bytes_of g n)) n → None ≡ next_level plan (bytes_of o n) (bytes_of g n)
    nowhere_last s = next_none plan _ _ (none_last_named _ _ (arranged_length a.0) s)

  module _ {k : ℕ} (s : Some k ≡ found (differs_at (bytes_of o n) (bytes_of g n)) n) where
    pub first_inside : k < n
    first_inside = (first_named _ _ (arranged_length a.0) s).0

    module _ {p : ℕ} (q : p ≡ level_of (bytes_of o n) (get_or (bytes_of g n) k 0)) where
      brought : p ≡ level_of (bytes_of o n) (get_or (bytes_of g n) (first_difference (bytes_of o n) (bytes_of g n)) 0)
      brought = rw (first_named _ _ (arranged_length a.0) s).2 at q

      pub below_top : 1 ≤ p
      below_top =
          rw brought
          (bring_up_below (bytes_of o n) (bytes_of g n) a.0.permutation a.1.permutation (arranged_same_length a.0 a.1)
          (arranged_differ a.0 a.1 (first_named _ _ (arranged_length a.0) s).1))

      pub bring_up_returns : Some (p - 1) ≡ next_level bring_up (bytes_of o n) (bytes_of g n)
      unfolding bring_up
      bring_up_returns = next_some bring_up _ _ (first_named _ _ (arranged_length a.0) s).1 (ap (λ (x : ℕ). x - 1) brought)

  module _ {k : ℕ} (s : Some k ≡ found_last (differs_at (bytes_of o n) (bytes_of g n)) n) where
    pub last_inside : k < n
    last_inside = (last_named _ _ (arranged_length a.0) s).0

    pub sink_down_returns : {p : ℕ} → p ≡ level_of (bytes_of o n) (get_or (bytes_of g n) k 0) → Some p ≡ next_level sink_down (bytes_of o n) (bytes_of g n)
    unfolding sink_down
    sink_down_returns q = next_some sink_down _ _ (last_named _ _ (arranged_length a.0) s).1 (rw (last_named _ _ (arranged_length a.0) s).2 at q)

  -- ---- Lowest and Highest Inversion, over the n - 1 pairs of levels next to each other

  module _ {r : Option ℕ} where
    pub lowest_returns : r ≡ found_last (inverted_at (bytes_of o n) (bytes_of g n)) (n - 1) → r ≡ next_level lowest_inversion (bytes_of o n) (bytes_of g n)
    lowest_returns s = lowest_next (bytes_of o n) (bytes_of g n) a.0.permutation a.1.permutation (arranged_same_length a.0 a.1) (rw (arranged_length a.0) s)

    pub highest_returns : r ≡ found (inverted_at (bytes_of o n) (bytes_of g n)) (n - 1) → r ≡ next_level highest_inversion (bytes_of o n) (bytes_of g n)
    highest_returns s = highest_next (bytes_of o n) (bytes_of g n) a.0.permutation a.1.permutation (arranged_same_length a.0 a.1) (rw (arranged_length a.0) s)

pub ruleset bringing = (nowhere_first, first_inside, below_top, bring_up_returns)

pub ruleset sinking = (nowhere_last, last_inside, sink_down_returns)

-- ---- the next level by a plan that was taken apart
pub next_returns : (o g : List ℕ) {a b : coded.Plan} {x : Option ℕ} → a ≡ b → x ≡ next_level (meant b) o g → x ≡ next_level (meant a) o g
next_returns o g e q = rw e q
