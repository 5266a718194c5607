-- A slice makes planned swaps until the order is the target, something stands in the way of the next one, or the budget is spent. Its answer is
-- judged on the state that is left. All of it over any state with an order, whatever may stand in a swap's way, and any plan.
-- docs/RULES.md, 5.3 and 5.4.
use Prim.Native.Nat.{ℕ, zero, suc, ◌+◌, ◌-◌, ◌≤◌, ◌<◌, zero-le, suc-le-suc}
use Rattle.std.specs.Prelude.{Bool, not, ◌&&◌, ◌⊎◌, ◌≡◌, length}
use Rattle.std.proofs.Math.Bool.{true, false, cond}
use mathlib.Core.List.{List, [], ◌∷◌, foldr}
use Rattle.std.proofs.Common.{inl, inr, ◌∙◌, add-zero, zero-add, suc-add, arith}
use Rattle.std.proofs.Math.Logic.{⊎_elim}
use Rattle.std.proofs.Math.Path.{refl, ap, sym}
use Rattle.std.proofs.lemmas.Bool.{not-true}
use Rattle.orders.specs.Permutation.{Permutation}
use Rattle.orders.specs.Exchange.{exchange}
use Rattle.plans.specs.Inversions.{left}
use Rattle.plans.specs.Plans.{Plan, same?}

-- what a slice drives: a state with an order, what stands in the way of a swap of levels k and k + 1, and the state that this swap leaves
pub record Relay (State Way : Type 0) : Type 0 where
  pub order : State → List ℕ
  pub way : State → ℕ → Way
  -- nothing stands in the way
  pub clear : Way → Bool
  pub swapped : State → ℕ → State

-- the swap of levels k and k + 1 can be made
abbrev pub fits : {State Way : Type 0} → Relay State Way → State → ℕ → Bool
fits R s k = R.clear (R.way s k)

-- what a fitting swap of two of n levels keeps, and what it does to the order
pub record RelayLaws {State Way : Type 0} (R : Relay State Way) (n : ℕ) (Good : State → Type 0) : Type 0 where
  pub permutation : (s : State) → Good s → Permutation (R.order s)
  pub long : (s : State) → Good s → length (R.order s) ≡ n
  pub good_swapped : (s : State) (k : ℕ) → Good s → k + 1 < n → fits R s k ≡ true → Good (R.swapped s k)
  pub order_swapped : (s : State) (k : ℕ) → Good s → k + 1 < n → fits R s k ≡ true → R.order (R.swapped s k) ≡ exchange (R.order s) k

-- done, or what stands in the way of the next planned swap: nothing, where the slice is paused
pub data Judgement (Way : Type 0) : Type 0 where
  done : Judgement Way
  meets : Way → Judgement Way

-- the answer of a slice, and the state left
pub record SliceOf (State Way : Type 0) : Type 0 where
  pub swaps : ℕ
  pub state : State
  pub judgement : Judgement Way
  pub left : ℕ

-- two answers as one: the swaps add up, all else is the later one's
unfoldable pub join : {State Way : Type 0} → SliceOf State Way → SliceOf State Way → SliceOf State Way
join a b = record { swaps = a.swaps + b.swaps; state = b.state; judgement = b.judgement; left = b.left }

module _ {State Way : Type 0} (R : Relay State Way) (plan : Plan) (target : List ℕ) where
  -- the order is the target
  unfoldable pub arrived : State → Bool
  arrived s = same? (R.order s) target

  -- the level of the next planned swap
  unfoldable pub next : State → ℕ
  next s = plan (R.order s) target

  -- the next planned swap is to be made: the order isn't the target, and nothing stands in the way
  unfoldable pub goes : State → Bool
  goes s = not (arrived s) && fits R s (next s)

  abbrev pub stepped : State → State
  stepped s = R.swapped s (next s)

  -- the state that a budget leaves
  unfoldable pub leaves : ℕ → State → State
  leaves zero s = s
  leaves (suc b) s = let t = leaves b (stepped s) in cond (goes s) t s

  -- the swaps made of a budget
  unfoldable pub made : ℕ → State → ℕ
  made zero s = 0
  made (suc b) s = let m = suc (made b (stepped s)) in cond (goes s) m 0

  -- done where the order is the target; otherwise the state meets what stands in the way of the next planned swap
  unfoldable pub judge : State → Judgement Way
  judge s = cond (arrived s) done (meets (R.way s (next s)))

  unfoldable pub slice : ℕ → State → SliceOf State Way
  slice b s = let t = leaves b s in record { swaps = made b s; state = t; judgement = judge t; left = left (R.order t) target }
