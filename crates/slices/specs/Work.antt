-- How the code of a slice goes: one step, and a loop of steps, each with fuel for so many stores.
use Rattle.std.specs.Prelude.{ℕ, ◌<◌, true, false, List, Option, Some, None, ◌≡◌, length}
use Rattle.orders.specs.Exchange.{exchange}
use Rattle.orders.specs.Arranged.{bytes_of, Arranged}
use Rattle.orders.specs.declared.Order.{Order}
use Rattle.plans.specs.Course.{to}
use Rattle.plans.specs.Plans.{Plan}
use Rattle.plans.specs.declared.course.Course.{Course}
use Rattle.slice_rules.specs.Slices as over
use Rattle.slice_rules.proofs.Slices as over_laws
use Rattle.undo.specs.Stores.{State}
use Rattle.undo.specs.Calls.{Call, cut}
use Rattle.undo.specs.Wrote.{Spent}
use Rattle.runs.specs.OneSwap.{OneSwap}
use Rattle.runs.specs.Run.{RunAnswer, stores_of, relay, run_stores}
use Rattle.slice_judging.specs.Judged.{Judgeable}
use Rattle.slice_judging.specs.declared.Reached.{Reached}

module _ (W : OneSwap) (plan : Plan) (r : List ℕ) where
  -- the next planned swap on a course is to be made, and is, cut after f stores: the order after it
  pub record Moved (course : Course) (s : State) (f : ℕ) (next : Order) (s' : State) (left : ℕ) : Type 0 where
    pub goes : over.goes (relay W r) plan (to course) s ≡ true
    pub spent : Spent f (stores_of W r s (over.next (relay W r) plan (to course) s)) s s' left
    pub exchanged : bytes_of next course.n ≡ exchange s.order (over.next (relay W r) plan (to course) s)
    pub arranged : Arranged next course.n

  -- one planned swap; where none is to be made nothing changes
  abbrev pub Stepped : Course → State → ℕ → Option Order → State → ℕ → Type 0
  Stepped course s f (Some next) s' left = Moved course s f next s' left
  Stepped course s f None s' left = (over.goes (relay W r) plan (to course) s ≡ false) × (s' ≡ s) × (left ≡ f)

  -- all of them, cut after f stores; what was reached on the course is known where fuel is left
  pub record Driven (g : List ℕ) (s : State) (budget f : ℕ) (l : Reached) (course : Course) (s' : State) : Type 0 where
    pub spent : Spent f (run_stores W plan r g budget s) s s' l.fuel
    pub sliced : 0 < l.fuel → over_laws.Sliced (relay W r) plan g s budget l.swaps s'
    pub judgeable : Judgeable s'.table r s'.order s'.log l course.target course.n
    pub target : to course ≡ g

-- a call that is cut after f stores; its answer is known where they were all made, and fuel is left
pub record Stopped (f : ℕ) (c : Call RunAnswer) (s : State) (a : RunAnswer) (s' : State) : Type 0 where
  pub state : s' ≡ cut f c s
  pub answer : length c.stores < f → a ≡ c.answer
