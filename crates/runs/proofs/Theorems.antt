-- Laws of what specs/Theorems.antt defines.
use Prim.Native.Nat.{ℕ, ◌+◌, ◌*◌, ◌≤◌, ◌<◌}
use Rattle.std.specs.Prelude.{Bool, true, not, List, [], ◌∷◌, ◌⊎◌, ◌≡◌, eqb, Ok, Err}
use Rattle.std.proofs.Math.Bool.{false}
use Rattle.std.proofs.Common.{inl, inr, ◌∙◌, arith}
use Rattle.std.proofs.Math.Path.{refl, ap, sym}
use borrow.Author.Tests.{eq-eqb, eqb-true, not-false}
use Rattle.std.proofs.Math.ListN.{length}
use Rattle.lists.specs.Apart.{apart}
use Rattle.lists.specs.Says.{Says, says_eqb, refutes, denies, decided}
use Rattle.lists.specs.Truth.{or_neither, clash}
use Rattle.diagrams.specs.Layout.{records, root_count}
use Rattle.orders.specs.Exchange.{exchange, length_exchange}
use Rattle.check_permutation.specs.BadPlace.{permutation_if, permutation_then}
use Rattle.plans.specs.Inversions.{left, left_same}
use Rattle.plans.specs.Plans.{Plan, Lawful, reached}
use Rattle.plans.specs.Numbered.{plan_of, no_plan}
use Rattle.plans.proofs.NumberedLaws.{plan_of_lawful}
use Rattle.slice_rules.specs.Slices as over
use Rattle.slice_rules.proofs.Slices as over_laws
use Rattle.slice_rules.specs.Slices.{Relay, RelayLaws, meets}
use Rattle.check_sizes.specs.Sizes.{Sizes, sizes_if, sizes_then, bad_sizes}
use Rattle.checks.specs.Stages.{Stage, AllPass, none, also, both_rows, rows_pass, stage_at, only_passed, passed_only}
use Rattle.checks.specs.Stages.{FailsFirst, Verdict, refusal, verdict_of, clear_if, clear_only, refused_if, refused_only}
use Rattle.checks.specs.Check.{order_stage}
use Rattle.checks.specs.declared.Refusal.{Refusal}
use Rattle.checks.specs.declared.Fault.{Fault}
use Rattle.checks.specs.declared.Fault.TheVariants.{BadOrder, BadTarget, NoPlan}
use Rattle.undo.specs.Stores.{in_log, State, puts}
use Rattle.undo.specs.Calls.{Call, Ended, whole, only}
use Rattle.undo.specs.Mending.{puts_long}
use Rattle.undo.specs.Log.{entries_held}
use Rattle.undo.specs.Survives.{Ready, Quiet}
use Rattle.undo.proofs.Survives.{swap_quiet}
use Rattle.undo.specs.Counts.{enough}
use Rattle.check_log.specs.BadLog.{open_stages}
use Rattle.check_log.specs.Accepted.{same_size}
use Rattle.check_log.specs.Open.{Open}
use Rattle.check_log.proofs.Open.{open_if, open_then, open_sizes}
use Rattle.swap_ways.specs.Ways.{is_clear}
use Rattle.swap_ways.specs.declared.Way.{Way}
use Rattle.swap_ways.specs.declared.Way.TheVariants as way
use Rattle.swap_ways.specs.declared.Lack.{Lack}
use Rattle.swap_ways.specs.declared.Short.{Short}
use Rattle.runs.specs.OneSwap.{OneSwap}
use Rattle.runs.specs.Run.{stores_of, relay, bad_run_sizes, order_stages, store_stages, run_stages, RunAnswer, answer_of, told, slice_answer}
use Rattle.runs.specs.Run.{slice_call, run_judged, run_call, run_of, RunOutcome}
use Rattle.runs.specs.Answers.{swaps_in, left_in, ran_to, answer_swaps, answer_left, answer_done, answer_paused}
use Rattle.runs.specs.Answers.{answer_no_room, answer_log_short}
use Rattle.runs.proofs.Stores.{stores_leave, stores_few}
use Rattle.runs.specs.declared.Slice.TheVariants.{Done, NoRoom, LogShort, Paused}
use Rattle.runs.specs.Theorems.{Good, Runnable, Startable}

-- ---- what passes Run's checks

pub run_sizes : (t r o g : List ℕ) → bad_run_sizes t r o g ≡ false → Sizes t r o × (length g ≡ length o)
unfolding bad_run_sizes
run_sizes t r o g e =
    let w = or_neither (bad_sizes t r o) (not (eqb (length g) (length o))) e in
    (sizes_if t r o w.0, eqb-true (length g) (length o) (not-false (eqb (length g) (length o)) w.1))

module _ (W : OneSwap) (s : State) (r g : List ℕ) where
  abbrev t : List ℕ
  t = s.table

  abbrev o : List ℕ
  o = s.order

  -- checks 1 to 9, 14 and 15, and 13
  abbrev before_13 : List Stage
  before_13 = store_stages W t r o g s.log

  store_ready : AllPass before_13 → Runnable W s r g
  unfolding store_stages order_stages
  store_ready (also h rest) = go (both_rows (open_stages s.log (records t) (length o)) orders rest)
    where
      sizes : Sizes t r o × (length g ≡ length o)
      sizes = run_sizes t r o g (passed_only 0 h)

      orders : List Stage
      orders = order_stage BadOrder o ∷ order_stage BadTarget g ∷ W.table_stages t r o

      go : AllPass (open_stages s.log (records t) (length o)) × AllPass orders → Runnable W s r g
      go (unsealed, also p (also q last)) = record {
        usable = W.usable_if t r o (also (only_passed 0 (sizes_then t r o sizes.0)) (also p last));
        target = permutation_if g q;
        long = sizes.1;
        log_open = open_if s.log (records t) (length o) unsealed;
      }

  store_passes : Runnable W s r g → AllPass before_13
  unfolding store_stages order_stages bad_run_sizes
  store_passes a =
      let sized : bad_run_sizes t r o g ≡ false = rw (sizes_then t r o (W.sizes t r o a.usable), eq-eqb (length g) (length o) a.long) in
      also (only_passed 0 sized)
      (rows_pass (open_stages s.log (records t) (length o)) _ (open_then s.log (records t) (length o) a.log_open)
      (also (permutation_then o (W.permutation t r o a.usable)) (also (permutation_then g a.target) (W.usable_passes t r o a.usable))))

  module _ (number : ℕ) where
    abbrev stages : List Stage
    stages = run_stages W number t r o g s.log

    abbrev plan_stage : List Stage
    plan_stage = stage_at NoPlan number (no_plan number) ∷ []

    plan_there : AllPass plan_stage → no_plan number ≡ false
    plan_there (also h none) = passed_only number h

    pub run_starts : AllPass stages → Startable W number s r g
    unfolding run_stages
    run_starts p = let w = both_rows before_13 plan_stage p in record { ready = store_ready w.0; plan = plan_there w.1 }

    pub run_passes : Startable W number s r g → AllPass stages
    unfolding run_stages
    run_passes a = rows_pass before_13 plan_stage (store_passes a.ready) (also (only_passed number a.plan) none)

-- a planned swap that nothing stands in the way of is ready for its stores
module _ (W : OneSwap) (r : List ℕ) (n : ℕ) (s : State) (k : ℕ) (good : Good W r n s) (level : k + 1 < n)
    (clear : is_clear (W.way_of s.table r s.order (entries_held s.log) k) ≡ true) where
  abbrev after : List ℕ
  after = W.table_after s.table r s.order k

  in_order_lem : k + 1 < length s.order
  in_order_lem = rw good.long level

  pub good_ready : Ready s after k
  good_ready = record {
    long = W.long_after s.table r s.order k good.usable;
    whole = omega (arith, (W.sizes s.table r s.order good.usable).whole_records);
    level = in_order_lem;
    room = W.entries_fit s.table r s.order (entries_held s.log) k clear;
    empty = good.log_open.empty;
  }

  -- and it leaves such a table
  quiet : Quiet after (exchange s.order k) (puts (stores_of W r s k) s)
  quiet = swap_quiet s after k good_ready

  pub good_after : Good W r n (puts (stores_of W r s k) s)
  good_after = record {
    usable = rw (quiet.table_is, quiet.order_is) (W.usable_after s.table r s.order (entries_held s.log) k good.usable in_order_lem clear);
    long = ap length quiet.order_is ∙ length_exchange s.order k ∙ good.long;
    log_open = record {
      sized = same_size _ s.log (puts_long (stores_of W r s k) s in_log) good.log_open.sized;
      empty = quiet.empty;
    };
  }

  pub table_after_lem : (puts (stores_of W r s k) s).table ≡ after
  table_after_lem = quiet.table_is

  pub order_after : (puts (stores_of W r s k) s).order ≡ exchange s.order k
  order_after = quiet.order_is

pub relay_laws : (W : OneSwap) (r : List ℕ) (n : ℕ) → RelayLaws (relay W r) n (Good W r n)
unfolding relay
relay_laws W r n = record {
  permutation = λ s w. W.permutation s.table r s.order w.usable;
  long = λ s w. w.long;
  good_swapped = λ s k w l f. good_after W r n s k w l f;
  order_swapped = λ s k w l f. order_after W r n s k w l f;
}

module _ (W : OneSwap) (number : ℕ) (s : State) (r g : List ℕ) where
  -- one outcome for each input
  pub run_one : (b : ℕ) {a a' : RunAnswer} {s₁ s₂ : State} → RunOutcome W number s r g b a s₁ → RunOutcome W number s r g b a' s₂ → (a ≡ a') × (s₁ ≡ s₂)
  run_one b p q = (ap (λ (e : Ended RunAnswer). e.answer) (p ∙ sym q), ap (λ (e : Ended RunAnswer). e.state) (p ∙ sym q))

  -- Run refuses with k at x exactly where check k fails at x, at no place before it, and every earlier check passes everywhere; it makes no store then
  pub run_refuses : (b : ℕ) (k : Fault) (x : ℕ) → FailsFirst (stages W s r g number) k x → run_call W number s r g b ≡ only (Err (refusal k x))
  unfolding run_call
  run_refuses b k x f = ap (run_judged W (plan_of number) s r g b) (refused_if (stages W s r g number) k x f)

  pub run_refuses_only : (b : ℕ) (k : Fault) (x : ℕ) → (run_call W number s r g b).answer ≡ Err (refusal k x) → FailsFirst (stages W s r g number) k x
  unfolding run_call
  run_refuses_only b k x e = refused_only (stages W s r g number) k x (go (verdict_of (stages W s r g number)) e)
    where
      go : (v : Verdict) → (run_judged W (plan_of number) s r g b v).answer ≡ Err (refusal k x) → v ≡ Err (refusal k x)
      go (Ok _) q = apart (cc)
      go (Err f) q = cc

  pub refused_keeps : (b : ℕ) (f : Refusal) → (run_call W number s r g b).answer ≡ Err f → (run_of W number s r g b).state ≡ s
  unfolding puts
  refused_keeps b f e =
      ap (λ (c : Call RunAnswer). puts c.stores s) (run_refuses b f.fault f.place (run_refuses_only b f.fault f.place e))

  -- an answer that is no refusal comes from a table that can be used, a target of its variables and an empty log
  pub run_startable : (b : ℕ) → ((f : Refusal) → (run_call W number s r g b).answer ≡ Err f → ⊥) → Startable W number s r g
  unfolding run_call
  run_startable b n = go (verdict_of (stages W s r g number)) refl n
    where
      go : (v : Verdict) → verdict_of (stages W s r g number) ≡ v
          → ((f : Refusal) → (run_judged W (plan_of number) s r g b v).answer ≡ Err f → ⊥) → Startable W number s r g
      go (Ok _) e m = run_starts W s r g number (clear_only (stages W s r g number) e)
      go (Err f) e m = absurd (m f refl)

-- ---- a run that starts

module _ (W : OneSwap) (number : ℕ) (s₀ : State) (r g : List ℕ) (starts : Startable W number s₀ r g) where
  abbrev plan : Plan
  plan = plan_of number

  lawful : Lawful plan
  lawful = plan_of_lawful number

  abbrev R : Relay State Way
  R = relay W r

  abbrev ran : ℕ → Ended RunAnswer
  ran b = run_of W number s₀ r g b

  -- the state that the slice leaves
  abbrev end : ℕ → State
  end b = over.leaves R plan g b s₀

  -- every check passes: the run is the slice
  pub call_is : (b : ℕ) → run_call W number s₀ r g b ≡ slice_call W plan s₀ r g b
  unfolding run_call
  call_is b = ap (run_judged W (plan_of number) s₀ r g b) (clear_if (stages W s₀ r g number) (run_passes W s₀ r g number starts))

  pub run_is : (b : ℕ) → run_of W number s₀ r g b ≡ ran_to (over.slice R plan g b s₀)
  unfolding ran_to over.slice
  run_is b =
      ap (λ (c : Call RunAnswer). whole c s₀) (call_is b)
      ∙ ap (λ (z : State). record { answer = slice_answer (over.slice R plan g b s₀); state = z }) (stores_leave W plan r g b s₀)

  pub good_start : Good W r (length g) s₀
  good_start = record { usable = starts.ready.usable; long = sym starts.ready.long; log_open = starts.ready.log_open }

  laws : RelayLaws R (length g) (Good W r (length g))
  laws = relay_laws W r (length g)

  pub good_end : (b : ℕ) → Good W r (length g) (end b)
  good_end b = over_laws.good_after R plan g (Good W r (length g)) laws lawful starts.ready.target b s₀ good_start

  pub run_state : (b : ℕ) → (ran b).state ≡ end b
  unfolding ran_to over.slice
  run_state b = ap (λ (w : Ended RunAnswer). w.state) (run_is b)

  run_table : (b : ℕ) → (ran b).state.table ≡ (end b).table
  run_table b = ap (λ (s : State). s.table) (run_state b)

  run_order : (b : ℕ) → (ran b).state.order ≡ (end b).order
  run_order b = ap (λ (s : State). s.order) (run_state b)

  -- ---- the table left can be used again, and the order has as many variables

  pub run_usable : (b : ℕ) → W.Usable (ran b).state.table r (ran b).state.order
  run_usable b = rw (run_table b, run_order b) (good_end b).usable

  pub run_long : (b : ℕ) → length (ran b).state.order ≡ length s₀.order
  run_long b = ap length (run_order b) ∙ (good_end b).long ∙ starts.ready.long

  -- and the log is empty again
  pub run_open : (b : ℕ) → Open (ran b).state.log
  run_open b = rw (run_state b) (good_end b).log_open

  -- so another run can start there
  pub run_restarts : (b : ℕ) → Startable W number (ran b).state r g
  run_restarts b = record {
    ready = record { usable = run_usable b; target = starts.ready.target; long = starts.ready.long ∙ sym (run_long b); log_open = run_open b };
    plan = starts.plan;
  }

  -- ---- the swap of a state on the way

  -- where the order isn't the target, the plan's next pair of levels is in the order
  next_inside : (s : State) → Good W r (length g) s → over.arrived R plan g s ≡ false → over.next R plan g s + 1 < length s.order
  unfolding relay
  next_inside s w e = (over_laws.next_inversion R plan g (Good W r (length g)) laws lawful starts.ready.target s w e).within

  -- each swap that a run makes is Swap's, with the same stores
  pub goes_made : (s : State) → Good W r (length g) s → over.goes R plan g s ≡ true
      → W.swap_call s r (over.next R plan g s) ≡ record { answer = Ok way.Clear; stores = stores_of W r s (over.next R plan g s) }
  unfolding relay
  goes_made s w e =
      let (a, f) = over_laws.goes_on R plan g s e in
      W.swap_clear s r (over.next R plan g s) w.usable (next_inside s w a) w.log_open f

  -- and it is ready for them
  pub next_ready : (s : State) → Good W r (length g) s → over.goes R plan g s ≡ true
      → Ready s (W.table_after s.table r s.order (over.next R plan g s)) (over.next R plan g s)
  unfolding relay
  next_ready s w e =
      let (a, f) = over_laws.goes_on R plan g s e in
      good_ready W r (length g) s (over.next R plan g s) w (rw w.long at (next_inside s w a)) f

  -- what holds of every root, of a state on the way
  pub record Keeps (s : State) : Type 0 where
    pub good : Good W r (length g) s
    pub values : (inputs : ℕ → Bool) (position : ℕ) → position < root_count r
        → W.root_value s.table r (length g) inputs position ≡ W.root_value s₀.table r (length g) inputs position

  keeps_stepped : (s : State) → Keeps s → over.goes R plan g s ≡ true → Keeps (over.stepped R plan g s)
  unfolding relay
  keeps_stepped s w e =
      let k : ℕ = over.next R plan g s in
      let (a, f) = over_laws.goes_on R plan g s e in
      let level : k + 1 < length s.order = next_inside s w.good a in
      let inside : k + 1 < length g = rw w.good.long at level in
      let table = table_after_lem W r (length g) s k w.good inside f in
      let kept = W.value_after s.table r s.order (entries_held s.log) k w.good.usable level f in
      record {
        good = laws.good_swapped s k w.good inside f;
        values = λ inputs position b. rw table ((rw w.good.long at (kept inputs position b)) ∙ w.values inputs position b);
      }

  -- every root keeps its value for every combination
  pub run_root_value : (b : ℕ) (inputs : ℕ → Bool) (position : ℕ) → position < root_count r
      → W.root_value (ran b).state.table r (length s₀.order) inputs position ≡ W.root_value s₀.table r (length s₀.order) inputs position
  run_root_value b inputs position l =
      let start : Keeps s₀ = record { good = good_start; values = λ inputs position l. refl } in
      rw (run_table b, ← starts.ready.long) ((over_laws.carried R plan g Keeps keeps_stepped b s₀ start).values inputs position l)

  -- ---- the numbers

  pub run_made : (b : ℕ) → swaps_in (ran b).answer ≡ over.made R plan g b s₀
  unfolding ran_to over.slice
  run_made b = ap (λ (w : Ended RunAnswer). swaps_in w.answer) (run_is b) ∙ answer_swaps _ _ _

  -- the order is the plan's, after exactly as many swaps as the answer says
  pub run_orders : (b : ℕ) → (ran b).state.order ≡ reached plan g (swaps_in (ran b).answer) s₀.order
  unfolding relay
  run_orders b = run_order b ∙ over_laws.planned R plan g (Good W r (length g)) laws lawful starts.ready.target b s₀ good_start ∙ rw (run_made b)

  -- the buffers left are those of a run with a budget of just as many swaps
  pub run_buffers : (b : ℕ) → (ran b).state ≡ (ran (swaps_in (ran b).answer)).state
  run_buffers b =
      run_state b ∙ over_laws.leaves_made R plan g b s₀ ∙ ap end (sym (run_made b)) ∙ sym (run_state (swaps_in (ran b).answer))

  pub run_none : (b : ℕ) → swaps_in (ran b).answer ≡ 0 → (ran b).state ≡ s₀
  unfolding over.leaves
  run_none b e = run_state b ∙ over_laws.leaves_made R plan g b s₀ ∙ ap end (sym (run_made b) ∙ e)

  -- no more swaps than the budget
  pub run_within : (b : ℕ) → swaps_in (ran b).answer ≤ b
  run_within b = rw (run_made b) (over_laws.made_small R plan g b s₀)

  -- left is that of the order left
  pub run_left : (b : ℕ) → left_in (ran b).answer ≡ left (ran b).state.order g
  unfolding ran_to over.slice relay
  run_left b = ap (λ (w : Ended RunAnswer). left_in w.answer) (run_is b) ∙ answer_left _ _ _ ∙ ap (λ p. left p g) (sym (run_order b))

  -- the fall in left is the number of swaps
  pub run_fall : (b : ℕ) → left (ran b).state.order g + swaps_in (ran b).answer ≡ left s₀.order g
  unfolding relay
  run_fall b = rw (run_order b, run_made b) (over_laws.fall R plan g (Good W r (length g)) laws lawful starts.ready.target b s₀ good_start)

  -- ---- each answer, judged on the buffers left

  -- what stands in the way of the plan's next swap of the buffers left
  abbrev met : ℕ → Way
  met b = W.way_of (ran b).state.table r (ran b).state.order (entries_held (ran b).state.log) (plan (ran b).state.order g)

  run_judged_lem : (b : ℕ) → (ran b).answer ≡ told (swaps_in (ran b).answer) (left (ran b).state.order g) (over.judge R plan g (end b))
  unfolding ran_to over.slice relay
  run_judged_lem b = ap (λ (w : Ended RunAnswer). w.answer) (run_is b) ∙ rw (run_made b, run_order b)

  arrived_says : (b : ℕ) → Says (over.arrived R plan g (end b)) ((ran b).state.order ≡ g)
  unfolding relay
  arrived_says b = rw (run_order b) (over_laws.arrived_says R plan g (Good W r (length g)) laws lawful starts.ready.target (end b) (good_end b))

  -- it is done where the order left is the target
  pub run_arrives : (b : ℕ) → (ran b).state.order ≡ g → (ran b).answer ≡ Ok (Done (swaps_in (ran b).answer) 0)
  unfolding answer_of
  run_arrives b e =
      run_judged_lem b
      ∙ ap (told (swaps_in (ran b).answer) (left (ran b).state.order g)) (over_laws.arrived_done R plan g (end b) ((arrived_says b).no e))
      ∙ ap (λ l. Ok (Done (swaps_in (ran b).answer) l)) (ap (λ p. left p g) e ∙ left_same g)

  meets_met : (b : ℕ) → ((ran b).state.order ≡ g → ⊥) → over.judge R plan g (end b) ≡ meets (met b)
  unfolding over.next relay
  meets_met b n =
      over_laws.meets_next R plan g (end b) (denies (arrived_says b) n)
      ∙ ap (λ (s : State). meets (W.way_of s.table r s.order (entries_held s.log) (plan s.order g))) (sym (run_state b))

  -- otherwise the answer is what stands in the way of the plan's next swap
  pub run_meets : (b : ℕ) → ((ran b).state.order ≡ g → ⊥) → (ran b).answer ≡ told (swaps_in (ran b).answer) (left (ran b).state.order g) (meets (met b))
  run_meets b n = run_judged_lem b ∙ ap (told (swaps_in (ran b).answer) (left (ran b).state.order g)) (meets_met b n)

  -- no room where the plan's next swap lacks room
  pub run_stuck : (b : ℕ) → ((ran b).state.order ≡ g → ⊥) → (lack : Lack) → met b ≡ way.NoRoom lack
      → (ran b).answer ≡ Ok (NoRoom (swaps_in (ran b).answer) (left (ran b).state.order g) lack)
  unfolding answer_of
  run_stuck b n lack e = run_meets b n ∙ ap (λ w. told (swaps_in (ran b).answer) (left (ran b).state.order g) (meets w)) e

  -- a judgement of the state left, as the buffers have it
  met_only : (b : ℕ) (w : Way) → over.judge R plan g (end b) ≡ meets w → ((ran b).state.order ≡ g → ⊥) × (met b ≡ w)
  unfolding over.next relay
  met_only b w e =
      let (a, q) = over_laws.meets_only R plan g (end b) w e in
      (refutes (arrived_says b) a, ap (λ (s : State). W.way_of s.table r s.order (entries_held s.log) (plan s.order g)) (run_state b) ∙ sym q)

  -- done: the target is reached, and as many swaps were made as there were inversions
  pub run_done : (b m l : ℕ) → (ran b).answer ≡ Ok (Done m l) → ((ran b).state.order ≡ g) × (m ≡ left s₀.order g) × (l ≡ 0)
  run_done b m l e =
      let (j, p, q) = answer_done _ _ _ m l (sym (run_judged_lem b) ∙ e) in
      let order : (ran b).state.order ≡ g = (arrived_says b).yes (over_laws.done_arrived R plan g (end b) j) in
      let none : left (ran b).state.order g ≡ 0 = ap (λ x. left x g) order ∙ left_same g in
      (order, omega (arith, p, none, run_fall b), q ∙ none)

  -- the plan's next pair of levels is in the order left
  pub run_inside : (b : ℕ) → ((ran b).state.order ≡ g → ⊥) → plan (ran b).state.order g + 1 < length (ran b).state.order
  unfolding over.next relay
  run_inside b n = rw (run_order b) (next_inside (end b) (good_end b) (denies (arrived_says b) n))

  -- no room: the target isn't reached, and the plan's next swap lacks room, by these numbers
  pub run_lacks : (b m l : ℕ) (lack : Lack) → (ran b).answer ≡ Ok (NoRoom m l lack) → ((ran b).state.order ≡ g → ⊥) × (met b ≡ way.NoRoom lack)
  run_lacks b m l lack e =
      let (j, p, q) = answer_no_room _ _ _ m l lack (sym (run_judged_lem b) ∙ e) in
      met_only b (way.NoRoom lack) j

  -- and then Swap, asked for that swap of the buffers left, answers the same and changes nothing
  pub run_lacks_swap : (b m l : ℕ) (lack : Lack) → (ran b).answer ≡ Ok (NoRoom m l lack)
      → W.swap_call (ran b).state r (plan (ran b).state.order g) ≡ only (Ok (way.NoRoom lack))
  run_lacks_swap b m l lack e =
      let (n, w) = run_lacks b m l lack e in
      W.swap_stuck (ran b).state r (plan (ran b).state.order g) (run_usable b) (run_inside b n) (run_open b) lack w

  -- log short: the target isn't reached, the plan's next swap has room, and the log is too short for it, by these numbers
  pub run_shorts : (b m l : ℕ) (short : Short) → (ran b).answer ≡ Ok (LogShort m l short) → ((ran b).state.order ≡ g → ⊥) × (met b ≡ way.LogShort short)
  run_shorts b m l short e =
      let (j, p, q) = answer_log_short _ _ _ m l short (sym (run_judged_lem b) ∙ e) in
      met_only b (way.LogShort short) j

  pub run_short : (b : ℕ) → ((ran b).state.order ≡ g → ⊥) → (short : Short) → met b ≡ way.LogShort short
      → (ran b).answer ≡ Ok (LogShort (swaps_in (ran b).answer) (left (ran b).state.order g) short)
  unfolding answer_of
  run_short b n short e = run_meets b n ∙ ap (λ w. told (swaps_in (ran b).answer) (left (ran b).state.order g) (meets w)) e

  pub run_shorts_swap : (b m l : ℕ) (short : Short) → (ran b).answer ≡ Ok (LogShort m l short)
      → W.swap_call (ran b).state r (plan (ran b).state.order g) ≡ only (Ok (way.LogShort short))
  run_shorts_swap b m l short e =
      let (n, w) = run_shorts b m l short e in
      W.swap_short (ran b).state r (plan (ran b).state.order g) (run_usable b) (run_inside b n) (run_open b) short w

  -- paused: the target isn't reached, nothing stands in the way of the plan's next swap, and exactly the budget of swaps was made
  pub run_paused : (b m l : ℕ) → (ran b).answer ≡ Ok (Paused m l) → ((ran b).state.order ≡ g → ⊥) × (met b ≡ way.Clear) × (m ≡ b)
  unfolding relay
  run_paused b m l e =
      let (j, p, q) = answer_paused _ _ _ m l (sym (run_judged_lem b) ∙ e) in
      let (n, w) = met_only b way.Clear j in
      (n, w, p ∙ run_made b ∙ over_laws.paused_budget R plan g b s₀ way.Clear j refl)

  -- each run spends its whole budget or ends in done or no room
  pub run_spends : (b : ℕ) → (swaps_in (ran b).answer ≡ b) ⊎ ((m l : ℕ) → (ran b).answer ≡ Ok (Paused m l) → ⊥)
  run_spends b = go (decided (says_eqb (swaps_in (ran b).answer) b))
    where
      go : (swaps_in (ran b).answer ≡ b) ⊎ (swaps_in (ran b).answer ≡ b → ⊥)
          → (swaps_in (ran b).answer ≡ b) ⊎ ((m l : ℕ) → (ran b).answer ≡ Ok (Paused m l) → ⊥)
      go (inl q) = inl q
      go (inr n) = inr (λ m l e. n (ap swaps_in e ∙ (run_paused b m l e).2))

  -- with a budget of at least left a run is never paused
  pub run_enough : (b m l : ℕ) → left s₀.order g ≤ b → (ran b).answer ≡ Ok (Paused m l) → ⊥
  unfolding relay
  run_enough b m l h e =
      let (j, p, q) = answer_paused _ _ _ m l (sym (run_judged_lem b) ∙ e) in
      let (a, w) = over_laws.meets_only R plan g (end b) way.Clear j in
      let still = over_laws.enough R plan g (Good W r (length g)) laws lawful starts.ready.target b s₀ good_start h in
      clash (over_laws.goes_if R plan g (end b) a (ap is_clear (sym w))) still

-- ---- no run makes more stores than the library has fuel for

pub few_stores : (W : OneSwap) (number : ℕ) (s : State) (r g : List ℕ) (b : ℕ) → length (run_call W number s r g b).stores ≤ b * enough
unfolding run_call
few_stores W number s r g b = go (verdict_of (stages W s r g number)) refl
  where
    go : (v : Verdict) → verdict_of (stages W s r g number) ≡ v → length (run_judged W (plan_of number) s r g b v).stores ≤ b * enough
    go (Ok _) e =
        let starts = run_starts W s r g number (clear_only (stages W s r g number) e) in
        stores_few W (plan_of number) r g b s (open_sizes starts.ready.log_open).few
    go (Err f) e = omega arith
