-- What was reached, and the answer judged on it.
use Rattle.std.specs.Prelude.{ℕ, ◌<◌, List, ◌≡◌}
use Rattle.orders.specs.Arranged.{Arranged}
use Rattle.orders.specs.declared.Order.{Order}
use Rattle.plans.specs.declared.course.Course.{Course}
use Rattle.plans.specs.Plans.{Plan}
use Rattle.plans.specs.Inversions.{left}
use Rattle.slice_rules.specs.Slices as over
use Rattle.undo.specs.Stores.{State}
use Rattle.runs.specs.OneSwap.{OneSwap}
use Rattle.runs.specs.Run.{relay, answer_of}
use Rattle.runs.specs.declared.Slice.{Slice}
use Rattle.slice_judging.specs.Drivable.{Drivable}
use Rattle.slice_judging.specs.declared.Reached.{Reached}

-- what was reached can be driven on towards the target, where fuel is left
pub record Judgeable (t r o log : List ℕ) (l : Reached) (target : Order) (n : ℕ) : Type 0 where
  pub arranged : 0 < l.fuel → Arranged l.order n × Arranged target n
  pub drivable : 0 < l.fuel → (course : Course) → course.order ≡ l.order → course.target ≡ target → course.n ≡ n → Drivable t r o log course

-- the answer of a slice that made so many swaps and left this state
abbrev pub judged_on : OneSwap → Plan → State → List ℕ → List ℕ → ℕ → Slice
judged_on W plan s r g swaps = answer_of swaps (left s.order g) (over.judge (relay W r) plan g s)
