-- What each way out of a step, of the loop and of the entry leaves, over plain variables.
use Rattle.std.specs.Prelude.{ℕ, ◌+◌, ◌-◌, ◌*◌, ◌≤◌, ◌<◌, true, false, List, [], ◌++◌, Option, Some, None, Ok, Err, ◌≡◌, refl, length}
use Rattle.std.specs.Result.{IsErrAnd}
use Rattle.std.proofs.Common.{ap, ap₂, sym, ◌∙◌, subst, arith, length-append, take_all}
use Rattle.std.proofs.Math.Seq.{take-nil}
use Rattle.std.proofs.lemmas.List.{take-append-le}
use Rattle.std.proofs.lemmas.Result.{err_from_is_err_and}
use mathlib.Core.List.{append-nil}
use Rattle.lists.specs.Says.{either_side}
use Rattle.orders.specs.Permutation.{ceiling, Permutation}
use Rattle.orders.specs.Exchange.{exchange}
use Rattle.orders.specs.Order.{load_order, exchanged_order}
use Rattle.orders.specs.Arranged.{bytes_of, Arranged, load_bytes, load_arranged, exchanged_arranged, exchanged_bytes}
use Rattle.orders.specs.declared.Order.{Order}
use Rattle.plans.specs.Course.{from, to}
use Rattle.plans.specs.Plans.{Plan, same?, next_level}
use Rattle.plans.specs.Numbered.{plan_of, meant}
use Rattle.plans.specs.declared.course.Course.{Course}
use Rattle.plans.specs.declared.Plan as coded
use Rattle.plans.proofs.Next.{next_some}
use Rattle.slice_rules.specs.Slices as over
use Rattle.slice_rules.proofs.Slices as over_laws
use Rattle.slice_rules.specs.Slices.{Relay}
use Rattle.slice_rules.proofs.Slices.{slicing_begins, slicing_goes, slicing_rests}
use Rattle.check_sizes.specs.Sizes.{TableSizes, sized}
use Rattle.checks.specs.Stages.{clear_only}
use Rattle.checks.specs.declared.Refusal.{Refusal}
use Rattle.undo.specs.Stores.{in_table, in_log, State, state, Store, puts}
use Rattle.undo.specs.Calls.{Call, cut, only, only_cut, cut_late}
use Rattle.undo.specs.Wrote.{Spent, spent_none, spent_more, spent_as, spent_long}
use Rattle.undo.specs.Log.{entries_held}
use Rattle.undo.specs.Survives.{Ready, Quiet}
use Rattle.undo.proofs.Survives.{swap_quiet}
use Rattle.undo.specs.Counts.{enough}
use Rattle.check_log.specs.Accepted.{same_size}
use Rattle.swap_rules.specs.Swap.{x_at, y_at}
use Rattle.swaps.specs.Bytes.{length_after}
use Rattle.swap_ways.specs.Room.{clear_then}
use Rattle.swap_ways.specs.Ways.{table_after, way_of, is_clear}
use Rattle.swaps.specs.Work.{Swapped}
use Rattle.swap_ways.specs.declared.Lack.{Lack}
use Rattle.swap_ways.specs.declared.Short.{Short}
use Rattle.swap_ways.specs.declared.Way.{Way}
use Rattle.swap_ways.specs.declared.Way.TheVariants as way
use Rattle.runs.specs.OneSwap.{plain_swap}
use Rattle.runs.specs.Run.{RunAnswer, Planned, stores_of, relay, run_stores, run_stages}
use Rattle.runs.specs.Run.{slice_call, run_judged, run_call, RunOutcome}
use Rattle.slice_judging.specs.Drivable.{Drivable, plan_in_order, at_target, on_the_way, next_is}
use Rattle.slice_judging.specs.Judged.{Judgeable, judged_on}
use Rattle.slices.specs.Work.{Moved, Stepped, Driven, Stopped}
use Rattle.runs.proofs.Stores.{next_stores, stepped_is, stores_rest, stores_add}
use Rattle.runs.specs.Theorems.{Runnable}
use Rattle.runs.proofs.Theorems.{few_stores, run_starts}
use Rattle.runs.specs.declared.Slice.{Slice}
use Rattle.slice_judging.specs.declared.Reached.{Reached}

-- ---- one planned swap

-- a call without a store changes nothing
spent_nothing : {f left : ℕ} {s s' : State} → Spent f [] s s' left → (s' ≡ s) × (left ≡ f)
unfolding puts
spent_nothing {f} {left} {s} w = (w.state ∙ ap (λ (l : List Store). puts l s) (take-nil {A = Store} f), omega (arith, w.left))

module _ (plan : Plan) {t r o log : List ℕ} {course : Course} (d : Drivable t r o log course) where
  -- the order is the target
  pub step_rests : (f : ℕ) {next : Option Order} → next ≡ None → None ≡ next_level plan (from course) (to course)
      → Stepped plain_swap plan r course (state t o log) f next (state t o log) f
  unfolding over.goes
  step_rests f none e =
      subst (λ x. Stepped plain_swap plan r course (state t o log) f x (state t o log) f) (sym none) (rw (at_target plan d e) refl, refl, refl)

  -- the plan has a next level
  module _ {k : ℕ} (planned : Some k ≡ next_level plan (from course) (to course)) where
    met : {w : Way} → w ≡ way_of t r o (entries_held log) k → over.goes (relay plain_swap r) plan (to course) (state t o log) ≡ is_clear w
    unfolding over.goes relay
    met e = rw (on_the_way plan d planned, ← next_is plan d planned, ← e) refl

    module _ {f left : ℕ} {s' : State} where
      pub step_lacks : {l : Lack} → Swapped f (state t o log) r k (way.NoRoom l) s' left
          → Stepped plain_swap plan r course (state t o log) f None s' left
      step_lacks w = let p = spent_nothing w.spent in (met w.answer, p.0, p.1)

      pub step_short : {l : Short} → Swapped f (state t o log) r k (way.LogShort l) s' left
          → Stepped plain_swap plan r course (state t o log) f None s' left
      step_short w = let p = spent_nothing w.spent in (met w.answer, p.0, p.1)

      pub step_moves : {next : Order} → k + 1 < course.n → next ≡ exchanged_order course.order k
          → Swapped f (state t o log) r k way.Clear s' left → Moved plain_swap plan r course (state t o log) f next s' left
      step_moves inside order w = record {
        goes = met w.answer;
        spent = spent_as w.spent (ap (stores_of plain_swap r (state t o log)) (next_is plan d planned));
        exchanged = ap (λ q. bytes_of q course.n) order ∙ exchanged_bytes course.arranged.0 k inside ∙ ap₂ exchange (sym d.bytes) (next_is plan d planned);
        arranged = rw order (exchanged_arranged course.arranged.0 k inside);
      }

-- ---- the loop

same_sizes : (t t₀ : List ℕ) {r : List ℕ} → length t ≡ length t₀ → TableSizes t₀ r → TableSizes t r
same_sizes t t₀ e s = record { few_records = rw e s.few_records; whole_records = rw e s.whole_records; few_roots = s.few_roots }

-- a call that ran out of fuel has made the first stores of any longer row
spent_out : {f : ℕ} {xs : List Store} (ys : List Store) {s s' : State} → Spent f xs s s' 0 → Spent f (xs ++ ys) s s' 0
spent_out {f} {xs} ys {s} {s'} w =
    let few : f ≤ length xs = omega (arith, w.left) in
    record {
      state = w.state ∙ ap (λ (l : List Store). puts l s) (sym (take-append-le f xs ys few));
      left = omega (arith, w.left, length-append xs ys);
    }

-- one that has fuel left has made them all
spent_all : {f r : ℕ} {xs : List Store} {s s' : State} → Spent f xs s s' r → (r ≡ 0 → ⊥) → s' ≡ puts xs s
spent_all {f} {r} {xs} {s} {s'} w n =
    let all : length xs ≤ f = either_side f (length xs) (λ l. absurd (n (omega (arith, w.left)))) (λ l. l) in
    w.state ∙ ap (λ (l : List Store). puts l s) (take_all f xs all)

-- the levels of the next planned swap are in the order, towards a target
next_in_order : (name : coded.Plan) {t r o log g : List ℕ} {course : Course} → Drivable t r o log course → to course ≡ g → same? o g ≡ false
    → meant name o g + 1 < length o
unfolding next_level
next_in_order name {o = o} {g = g} {course = course} d e apart =
    let differ : same? (from course) (to course) ≡ false = rw (d.bytes, ← e) at apart in
    let l = plan_in_order d name (next_some (meant name) (from course) (to course) differ refl) in
    rw (d.bytes, ← e) (rw d.bytes at l)

-- what was reached can be driven on, on the same course
on_course : {t r o log : List ℕ} {course : Course} {i left : ℕ} → Drivable t r o log course
    → Judgeable t r o log (record { order = course.order; swaps = i; fuel = left }) course.target course.n
on_course {course = course} d = record {
  arranged = λ h. course.arranged;
  drivable = λ h c e g q. record { sized = d.sized; log_open = d.log_open; bytes = d.bytes ∙ sym (ap₂ bytes_of e q) };
}

-- at i swaps of the budget, all of them whole
pub record Driving (name : coded.Plan) (g t₀ r o₀ log₀ : List ℕ) (budget f : ℕ) (t o log : List ℕ) (course : Course) (i left : ℕ) : Type 0 where
  pub so_far : over_laws.Slicing (relay plain_swap r) (meant name) g (state t₀ o₀ log₀) budget i (state t o log)
  pub spent : Spent f (run_stores plain_swap (meant name) r g i (state t₀ o₀ log₀)) (state t₀ o₀ log₀) (state t o log) left
  pub drivable : Drivable t r o log course
  pub target : to course ≡ g

pub drive_begins : (name : coded.Plan) {t r o log : List ℕ} {start : Course} (budget : ℕ) {f : ℕ} → Drivable t r o log start
    → Driving name (to start) t r o log budget f t o log start 0 f
unfolding run_stores
drive_begins name {t} {r} {o} {log} {start} budget d = record {
  so_far = slicing_begins (relay plain_swap r) (meant name) (to start);
  spent = spent_none;
  drivable = d;
  target = refl;
}

module _ (name : coded.Plan) {g t₀ r o₀ log₀ : List ℕ} {budget f : ℕ} {t o log : List ℕ} {course : Course} {i left : ℕ}
    (d : Driving name g t₀ r o₀ log₀ budget f t o log course i left) where
  abbrev P : Plan
  P = meant name

  abbrev R : Relay State Way
  R = relay plain_swap r

  abbrev begun : State
  begun = state t₀ o₀ log₀

  abbrev now_at : State
  now_at = state t o log

  abbrev all_stores : ℕ → List Store
  all_stores b = run_stores plain_swap P r g b begun

  -- the stores of the rest of the budget
  rest_is : (b : ℕ) → all_stores (i + b) ≡ all_stores i ++ run_stores plain_swap P r g b now_at
  rest_is b = stores_add plain_swap P r g i b begun ∙ ap (λ (z : State). all_stores i ++ run_stores plain_swap P r g b z) (sym d.so_far.so_far)

  -- nothing more is to be made
  pub drive_rests : {s' : State} {m : ℕ} → Stepped plain_swap P r course now_at left None s' m
      → Driven plain_swap P r g begun budget f (record { order = course.order; swaps = i; fuel = m }) course s'
  drive_rests {s'} {m} w =
      let rests : over.goes R P g now_at ≡ false = rw d.target at w.0 in
      let none = stores_rest plain_swap P r g (budget - i) now_at rests in
      let within : i + (budget - i) ≡ budget = omega (arith, d.so_far.within) in
      let whole = ap all_stores (sym within) ∙ rest_is (budget - i) in
      rw (w.1, w.2) (record {
        spent = spent_as d.spent (sym (whole ∙ ap (λ (l : List Store). all_stores i ++ l) none ∙ append-nil (all_stores i)));
        sliced = λ h. slicing_rests R P g d.so_far rests;
        judgeable = on_course d.drivable;
        target = d.target;
      })

  module _ {next : Order} {s' : State} {m : ℕ} (moved : Moved plain_swap P r course now_at left next s' m) (l : i < budget) where
    goes : over.goes R P g now_at ≡ true
    goes = subst (λ x. over.goes R P x now_at ≡ true) d.target moved.goes

    spent : Spent left (stores_of plain_swap r now_at (over.next R P g now_at)) now_at s' m
    spent = subst (λ x. Spent left (stores_of plain_swap r now_at (over.next R P x now_at)) now_at s' m) d.target moved.spent

    exchanged : bytes_of next course.n ≡ exchange o (over.next R P g now_at)
    exchanged = subst (λ x. bytes_of next course.n ≡ exchange o (over.next R P x now_at)) d.target moved.exchanged

    abbrev stores : List Store
    stores = next_stores plain_swap P r g now_at

    -- the stores of all swaps up to this one
    one_more : all_stores (i + 1) ≡ all_stores i ++ stores
    unfolding run_stores
    one_more = rest_is 1 ∙ ap (λ (x : List Store). all_stores i ++ x) (one goes)
      where
        one : over.goes R P g now_at ≡ true → run_stores plain_swap P r g 1 now_at ≡ stores
        one e = rw e (append-nil stores)

    up_to_lem : Spent f (all_stores (i + 1)) begun s' m
    up_to_lem = spent_as (spent_more d.spent spent) (sym one_more)

    -- supply is lost in it
    pub drive_lost : (c : Course) {q : Order} {j : ℕ} → c.target ≡ course.target → c.n ≡ course.n → m ≡ 0
        → Driven plain_swap P r g begun budget f (record { order = q; swaps = j; fuel = 0 }) c s'
    drive_lost c target n z =
        let out : Spent f (all_stores (i + 1)) begun s' 0 = subst (λ x. Spent f (all_stores (i + 1)) begun s' x) z up_to_lem in
        let more = run_stores plain_swap P r g (budget - (i + 1)) (over.leaves R P g (i + 1) begun) in
        let whole : i + 1 + (budget - (i + 1)) ≡ budget = omega arith in
        record {
          spent = spent_as (spent_out more out) (sym (ap all_stores (sym whole) ∙ stores_add plain_swap P r g (i + 1) (budget - (i + 1)) begun));
          sliced = λ h. absurd (omega arith);
          judgeable = record { arranged = λ h. absurd (omega arith); drivable = λ h x e y q. absurd (omega arith) };
          target = ap₂ bytes_of target n ∙ d.target;
        }

    -- the swap is whole
    module _ (some : m ≡ 0 → ⊥) where
      made : s' ≡ over.stepped R P g now_at
      made = spent_all spent some ∙ sym (stepped_is plain_swap P r g now_at)

      abbrev k : ℕ
      k = over.next R P g now_at

      clear : is_clear (way_of t r o (entries_held log) k) ≡ true
      unfolding relay
      clear = (over_laws.goes_on R P g now_at goes).1

      inside : k + 1 < length o
      unfolding over.next over.arrived relay
      inside = next_in_order name d.drivable d.target (over_laws.goes_on R P g now_at goes).0

      ready : Ready now_at (table_after t r o k) k
      ready = record {
        long = sym (length_after t r (x_at o k) (y_at o k) d.drivable.sized.whole_records);
        whole = omega (arith, d.drivable.sized.whole_records);
        level = inside;
        room = (clear_then t r o (entries_held log) k clear).1;
        empty = d.drivable.log_open.empty;
      }

      quiet : Quiet (table_after t r o k) (exchange o k) s'
      quiet = subst (Quiet (table_after t r o k) (exchange o k)) (sym (spent_all spent some)) (swap_quiet now_at (table_after t r o k) k ready)

      pub drive_goes : (c : Course) → c.order ≡ next → c.target ≡ course.target → c.n ≡ course.n
          → Driving name g t₀ r o₀ log₀ budget f s'.table s'.order s'.log c (i + 1) m
      drive_goes c order target n = record {
        so_far = slicing_goes R P g d.so_far l goes made;
        spent = up_to_lem;
        drivable = record {
          sized = same_sizes s'.table t (spent_long in_table spent) d.drivable.sized;
          log_open = record { sized = same_size s'.log log (spent_long in_log spent) d.drivable.log_open.sized; empty = quiet.empty };
          bytes = quiet.order_is ∙ sym exchanged ∙ sym (ap₂ bytes_of order n);
        };
        target = ap₂ bytes_of target n ∙ d.target;
      }

-- ---- the entry

-- a run that no check refuses
module _ (t r o g log : List ℕ) (starts : Runnable plain_swap (state t o log) r g) where
  pub loads_order : (length o ≤ ceiling) × Permutation o
  loads_order = (starts.usable.sizes.few_variables, starts.usable.order)

  target_short : length g ≤ ceiling
  target_short = omega (arith, starts.usable.sizes.few_variables, starts.long)

  pub loads_target : (length g ≤ ceiling) × Permutation g
  loads_target = (target_short, starts.target)

  module _ {p q : Order} (ordered : p ≡ load_order o) (aimed : q ≡ load_order g) where
    pub start_arranged : Arranged p (length o) × Arranged q (length o)
    start_arranged = (
      rw ordered (load_arranged o starts.usable.order starts.usable.sizes.few_variables),
      rw (aimed, ← starts.long) (load_arranged g starts.target target_short),
    )

    pub start_target : bytes_of q (length o) ≡ g
    start_target = rw (aimed, ← starts.long) (load_bytes g target_short)

    pub start_drivable : (course : Course) → course.order ≡ p → course.n ≡ length o → Drivable t r o log course
    start_drivable course e n = record {
      sized = sized starts.usable.sizes;
      log_open = starts.log_open;
      bytes = sym (ap₂ bytes_of (e ∙ ordered) n ∙ load_bytes o starts.usable.sizes.few_variables);
    }

-- what was reached, judged: the answer is known where fuel is left
pub slice_done : (plan : Plan) {budget f : ℕ} {l : Reached} {course : Course} {s s' : State} {r g g' : List ℕ} {a : Slice}
    → g' ≡ g → Driven plain_swap plan r g' s budget f l course s'
    → (0 < l.fuel → a ≡ judged_on plain_swap plan s' r (to course) l.swaps)
    → Stopped f (slice_call plain_swap plan s r g budget) s (Ok a) s'
unfolding over.slice relay
slice_done plan {budget} {f} {l} {course} {s} {s'} {r} {g} {g'} {a} e driven q =
    let d = subst (λ x. Driven plain_swap plan r x s budget f l course s') e driven in
    record {
      state = d.spent.state;
      answer = λ h.
          let some : 0 < l.fuel = omega (arith, d.spent.left) in
          let w = d.sliced some in
          let aimed : a ≡ judged_on plain_swap plan s' r g l.swaps = q some ∙ ap (λ x. judged_on plain_swap plan s' r x l.swaps) d.target in
          ap Ok (aimed ∙ ap₂ (λ (m : ℕ) (z : State). judged_on plain_swap plan z r g m) w.swaps_made w.state_left);
    }

module _ (number : ℕ) (t r o g log : List ℕ) where
  abbrev s₀ : State
  s₀ = state t o log

  pub run_refused : (budget : ℕ) {f : ℕ} {w : Refusal} {a : RunAnswer} → Planned number (run_stages plain_swap number t r o g log) (Err w)
      → IsErrAnd a (λ u. u ≡ w) → Stopped f (run_call plain_swap number s₀ r g budget) s₀ a s₀
  unfolding run_call
  run_refused budget {f} {w} {a} e h =
      let p = err_from_is_err_and a h in
      let c : only (Err w) ≡ run_call plain_swap number s₀ r g budget = ap (run_judged plain_swap (plan_of number) s₀ r g budget) (sym e) in
      record {
        state = sym (only_cut {Answer = RunAnswer} f (Err w) s₀) ∙ ap (λ (x : Call RunAnswer). cut f x s₀) c;
        answer = λ l. p.1 ∙ ap Err p.2 ∙ ap (λ (x : Call RunAnswer). x.answer) c;
      }

  module _ (plan : coded.Plan) (v : Planned number (run_stages plain_swap number t r o g log) (Ok plan)) where
    pub run_ready : Runnable plain_swap s₀ r g
    run_ready = (run_starts plain_swap s₀ r g number (clear_only (run_stages plain_swap number t r o g log) v.0)).ready

    pub run_sliced : (budget : ℕ) {f : ℕ} {a : RunAnswer} {s' : State} → Stopped f (slice_call plain_swap (meant plan) s₀ r g budget) s₀ a s'
        → Stopped f (run_call plain_swap number s₀ r g budget) s₀ a s'
    unfolding run_call
    run_sliced budget {f} {a} {s'} d =
        let c : slice_call plain_swap (meant plan) s₀ r g budget ≡ run_call plain_swap number s₀ r g budget =
        ap (λ z. slice_call plain_swap z s₀ r g budget) v.1 ∙ ap (run_judged plain_swap (plan_of number) s₀ r g budget) (sym v.0) in
        subst (λ (x : Call RunAnswer). Stopped f x s₀ a s') c d

-- ---- with enough fuel it isn't cut

pub run_whole : (number : ℕ) (s : State) (r g : List ℕ) (budget : ℕ) {f : ℕ} {s' : State} {a : RunAnswer}
    → Stopped f (run_call plain_swap number s r g budget) s a s' → f ≡ (budget + 1) * enough → RunOutcome plain_swap number s r g budget a s'
run_whole number s r g budget {f} {s'} {a} w e =
    let few = few_stores plain_swap number s r g budget in
    λ i. record {
      answer = w.answer (omega (arith, few)) i;
      state = (w.state ∙ cut_late f (run_call plain_swap number s r g budget) s (omega (arith, few))) i;
    }
