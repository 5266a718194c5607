-- A call that may change the lent buffers: its answer, and its stores. It makes all of them, or the first f where supply is lost.
use Rattle.std.specs.Prelude.{ℕ, ◌≤◌, ◌≡◌, refl, length, take}
use mathlib.Core.List.{List, []}
use Rattle.std.proofs.Math.Path.{ap}
use Rattle.std.proofs.Common.{take_all}
use Rattle.std.proofs.Math.Seq.{take-nil}
use Rattle.undo.specs.Stores.{State, Store, puts}

pub record Call (Answer : Type 0) : Type 0 where
  pub answer : Answer
  pub stores : List Store

-- the answer, and the buffers
pub record Ended (Answer : Type 0) : Type 0 where
  pub answer : Answer
  pub state : State

module _ {Answer : Type 0} where
  abbrev pub whole : Call Answer → State → Ended Answer
  whole c s = record { answer = c.answer; state = puts c.stores s }

  -- cut after f stores
  abbrev pub cut : ℕ → Call Answer → State → State
  cut f c s = puts (take f c.stores) s

  -- an answer alone
  abbrev pub only : Answer → Call Answer
  only a = record { answer = a; stores = [] }

  pub cut_late : (f : ℕ) (c : Call Answer) (s : State) → length c.stores ≤ f → cut f c s ≡ (whole c s).state
  cut_late f c s h = ap (λ (l : List Store). puts l s) (take_all f c.stores h)

  -- which makes no store
  pub only_cut : (f : ℕ) (a : Answer) (s : State) → cut f (only a) s ≡ s
  unfolding puts
  only_cut f a s = ap (λ (l : List Store). puts l s) (take-nil {A = Store} f)

pub puts_none : (s : State) → puts [] s ≡ s
unfolding puts
puts_none s = refl
