-- Request L6: supply lost in mid-swap. A swap is cut after any number f of its stores, a recovery is cut after any number of its own and begun again, any
-- number of times, and then one recovery isn't cut. It is never refused. Table and order are then exactly as before the swap if the clearing of the seal,
-- its last store, wasn't among the f; else exactly as after it. A slice that is cut comes back to a number of whole planned swaps, and goes on from there.
--
-- `swap_cut` and `run_cut` are what the code leaves that is run with fuel for f stores, and `recover_cut` is the same of Recover; `recovers` makes one recovery
-- after the other, each cut after so many stores.
use Rattle.std.specs.Prelude.{ℕ, ◌+◌, ◌-◌, ◌≤◌, ◌<◌, false, List, [], ◌∷◌, ◌++◌, ◌≡◌, refl, length, take, Ok}
use Rattle.std.proofs.Common.{append_assoc, ap, ◌∙◌, subst, arith}
use Rattle.std.proofs.Math.Path.{sym}
use Rattle.orders.specs.Exchange.{exchange}
use Rattle.plans.specs.Numbered.{plan_of}
use Rattle.plans.specs.Plans.{Plan}
use Rattle.slice_rules.specs.Slices as over
use Rattle.slice_rules.specs.Slices.{Relay}
use Rattle.check_sizes.specs.Sizes.{bad_sizes, sizes_if, sizes_then}
use Rattle.undo.specs.Stores.{in_log, State, Store, puts}
use Rattle.undo.specs.Calls.{Call, Ended}
use Rattle.undo.specs.Log as undo
use Rattle.undo.specs.Log.{is_sealed, counted, logging, sealing, putting, clearing, old_entries, new_entries, entries_needed, swap_stores}
use Rattle.undo.specs.Survives.{Ready, Quiet}
use Rattle.undo.specs.Mending.{puts_long}
use Rattle.check_log.specs.Accepted.{same_size}
use Rattle.recovery.specs.Recover.{RecoverAnswer, recover_call, recover_of, recover_cut}
use Rattle.recovery.specs.Theorems as recover
use Rattle.recovery.specs.Again.{Accepting, recovers}
use Rattle.recovery.proofs.Again.{recover_answers, quiet_accepts, quiet_stays, cut_accepts, cut_before, cut_after}
use Rattle.swap_ways.specs.Ways.{table_after, way_clear}
use Rattle.swaps.specs.Outcome.{SwapAnswer, swap_after, swap_call, swap_of, swap_cut}
use Rattle.swaps.specs.Entry.{AbleOf}
use Rattle.swaps.proofs.Entry.{made_only, made_is, call_is, swap_ready}
use Rattle.swap_ways.specs.declared.Way.{Way}
use Rattle.swap_ways.specs.declared.Way.TheVariants as way
use Rattle.runs.specs.OneSwap.{plain_swap}
use Rattle.runs.specs.Run.{RunAnswer, relay, run_stores, run_cut, run_of}
use Rattle.runs.specs.Answers.{swaps_in, with_more, as_one}
use Rattle.runs.proofs.Adding.{run_add}
use Rattle.runs.proofs.Stores.{CutAt, between, within, cut_at}
use Rattle.runs.proofs.Theorems as run
use Rattle.runs.specs.Theorems.{Good, Startable}
use Rattle.demands.specs.EmptyLog.{Agree, Like, like_runs}

-- check 1 of a recovery, which has no roots
recover_sizes : (t r o : List ℕ) → bad_sizes t r o ≡ false → bad_sizes t [] o ≡ false
recover_sizes t r o e =
    let s = sizes_if t r o e in
    sizes_then t [] o (record {
      some_variables = s.some_variables;
      few_variables = s.few_variables;
      whole_records = s.whole_records;
      few_records = s.few_records;
      whole_roots = refl;
      few_roots = omega arith;
    })

-- ---- a swap that is made

module _ (s : State) (r : List ℕ) (k : ℕ) (made : (swap_of s r k).answer ≡ Ok way.Clear) where
  able : AbleOf s r k
  able = (made_only s r k made).0

  abbrev after : List ℕ
  after = table_after s.table r s.order k

  ready : Ready s after k
  ready = swap_ready s r k able (made_only s r k made).1

  sizes : bad_sizes s.table [] s.order ≡ false
  sizes = recover_sizes s.table r s.order (sizes_then s.table r s.order able.usable.sizes)

  -- its stores
  stores_are : (swap_call s r k).stores ≡ swap_stores s after k
  stores_are =
      ap (λ (c : Call SwapAnswer). c.stores)
      (call_is s r k able ∙ ap (swap_after s r k) (way_clear s.table r s.order _ k (made_only s r k made).1))

  cut_is : (f : ℕ) → swap_cut f s r k ≡ undo.swap_cut f s after k
  cut_is f = ap (λ (l : List Store). puts (take f l) s) stores_are

  -- the last of them clears the seal
  pub clearing_last : (before : List Store) × ((swap_call s r k).stores ≡ before ++ (clearing s.log ∷ []))
  unfolding swap_stores
  clearing_last =
      let first = logging (old_entries s after k) ++ sealing s.log (entries_needed s.table after) in
      (first ++ putting (new_entries s after k), stores_are ∙ sym (append_assoc first (putting (new_entries s after k)) (clearing s.log ∷ [])))

  module _ (f : ℕ) (fs : List ℕ) where
    -- what is left once everything is recovered
    abbrev back : Ended RecoverAnswer
    back = recover_of (recovers fs (swap_cut f s r k))

    -- no recovery is refused on the way
    pub cut_answered : back.answer ≡ Ok (counted (recovers fs (swap_cut f s r k)).log)
    cut_answered = rw (cut_is f) (recover_answers (undo.swap_cut f s after k) (cut_accepts s sizes after k ready able.log_open.sized f) fs)

    -- cut before the clearing
    pub cut_undone : f < length (swap_call s r k).stores → (back.state.table ≡ s.table) × (back.state.order ≡ s.order)
    cut_undone h =
        let l : f < length (swap_stores s after k) = rw stores_are at h in
        let q : Quiet s.table s.order back.state = rw (cut_is f) (cut_before s sizes after k ready able.log_open.sized f fs l) in
        (q.table_is, q.order_is)

    -- cut after it
    pub cut_kept : length (swap_call s r k).stores ≤ f → (back.state.table ≡ (swap_of s r k).state.table) × (back.state.order ≡ (swap_of s r k).state.order)
    cut_kept h =
        let l : length (swap_stores s after k) ≤ f = rw stores_are at h in
        let q : Quiet after (exchange s.order k) back.state = rw (cut_is f) (cut_after s sizes after k ready able.log_open.sized f fs l) in
        let is = made_is s r k made in
        (q.table_is ∙ sym (ap (λ (e : Ended SwapAnswer). e.state.table) is), q.order_is ∙ sym (ap (λ (e : Ended SwapAnswer). e.state.order) is))

-- ---- a slice

-- no recovery changes the length of the log
recovers_long : (fs : List ℕ) (a : State) → length (recovers fs a).log ≡ length a.log
unfolding recovers
recovers_long [] a = refl
recovers_long (f ∷ fs) a = recovers_long fs (recover_cut f a) ∙ puts_long (take f (recover_call a).stores) a in_log

module _ (number : ℕ) (s : State) (r g : List ℕ) (starts : Startable plain_swap number s r g) (b : ℕ) where
  abbrev R : Relay State Way
  R = relay plain_swap r

  abbrev plan : Plan
  plan = plan_of number

  -- the answer of a run with this budget, and the buffers that it leaves
  abbrev ran : ℕ → Ended RunAnswer
  ran = run_of plain_swap number s r g

  -- the state after m planned swaps
  abbrev at : ℕ → State
  at m = over.leaves R plan g m s

  good_at : (m : ℕ) → Good plain_swap r (length g) (at m)
  good_at = run.good_end plain_swap number s r g starts

  sizes_at : (m : ℕ) → bad_sizes (at m).table [] (at m).order ≡ false
  sizes_at m = recover_sizes (at m).table r (at m).order (sizes_then (at m).table r (at m).order (good_at m).usable.sizes)

  module _ (f : ℕ) (fs : List ℕ) where
    -- the slice that is cut after f stores, and what is left once everything is recovered
    abbrev stopped : State
    stopped = run_cut plain_swap number f s r g b

    abbrev resumed : Ended RecoverAnswer
    resumed = recover_of (recovers fs stopped)

    -- table and order are those after a number of whole planned swaps, no more than the budget, and the rest of the budget leads on to the same end
    pub record Resumes : Type 0 where
      pub swaps : ℕ
      pub few : swaps ≤ b
      pub all_made : swaps_in (ran swaps).answer ≡ swaps
      pub answered : resumed.answer ≡ Ok (counted (recovers fs stopped).log)
      pub table : resumed.state.table ≡ (ran swaps).state.table
      pub order : resumed.state.order ≡ (ran swaps).state.order
      pub goes_on : Agree (as_one (ran swaps) (run_of plain_swap number resumed.state r g (b - swaps))) (ran b)

    -- from where recoveries lead back to the state after m swaps
    resumes : (m : ℕ) → m ≤ b → over.made R plan g m s ≡ m → length stopped.log ≡ length (at m).log → Accepting stopped
        → Quiet (at m).table (at m).order resumed.state → Resumes
    resumes m l c long accepts q = record {
      swaps = m;
      few = l;
      all_made = run.run_made plain_swap number s r g starts m ∙ c;
      answered = recover_answers stopped accepts fs;
      table = q.table_is ∙ ap (λ (z : State). z.table) there;
      order = q.order_is ∙ ap (λ (z : State). z.order) there;
      goes_on = subst (λ (z : Ended RunAnswer). Agree (as_one (ran m) (run_of plain_swap number resumed.state r g (b - m))) z) whole
          (record {
            answer = ap (with_more (swaps_in (ran m).answer)) rest.answer;
            table = rest.table;
            order = rest.order;
          });
    }
      where
        there : at m ≡ (ran m).state
        there = sym (run.run_state plain_swap number s r g starts m)

        long_log : length resumed.state.log ≡ length (at m).log
        long_log = puts_long (recover_call (recovers fs stopped)).stores (recovers fs stopped) in_log ∙ recovers_long fs stopped ∙ long

        like : Like resumed.state (ran m).state
        like = rw (← there) (record { table = q.table_is; order = q.order_is; long = long_log })

        again : Startable plain_swap number resumed.state r g
        again =
            let w = run.run_restarts plain_swap number s r g starts m in
            record {
              ready = record {
                usable = rw (like.table, like.order) w.ready.usable;
                target = w.ready.target;
                long = w.ready.long ∙ ap length (sym like.order);
                log_open = record { sized = same_size resumed.state.log (at m).log long_log (good_at m).log_open.sized; empty = q.empty };
              };
              plan = w.plan;
            }

        rest : Agree (run_of plain_swap number resumed.state r g (b - m)) (run_of plain_swap number (ran m).state r g (b - m))
        rest =
            like_runs number r g starts.ready.target (b - m) resumed.state (ran m).state again
            (run.run_restarts plain_swap number s r g starts m) like

        whole : as_one (ran m) (run_of plain_swap number (ran m).state r g (b - m)) ≡ ran b
        whole = run_add plain_swap number r g s m (b - m) ∙ ap ran (rest_of m b l)
          where
            rest_of : (m b : ℕ) → m ≤ b → m + (b - m) ≡ b
            rest_of m b l = omega arith

    pub run_survives : Resumes
    run_survives = go (cut_at plain_swap plan r g b s f)
      where
        stopped_is : stopped ≡ puts (take f (run_stores plain_swap plan r g b s)) s
        stopped_is = ap (λ (c : Call RunAnswer). puts (take f c.stores) s) (run.call_is plain_swap number s r g starts b)

        quiet_at : (m : ℕ) → Quiet (at m).table (at m).order (at m)
        quiet_at m = record { table_is = refl; order_is = refl; empty = (good_at m).log_open.empty }

        go : CutAt plain_swap plan r g b s (puts (take f (run_stores plain_swap plan r g b s)) s) → Resumes
        go (between m l c p) =
            let is : stopped ≡ at m = stopped_is ∙ p in
            let size = (good_at m).log_open.sized in
            resumes m l c (ap (λ (z : State). length z.log) is)
            (rw is (quiet_accepts (at m) (sizes_at m) (quiet_at m) size)) (rw is (quiet_stays (at m) (sizes_at m) (quiet_at m) size fs))
        go (within m e l c h k p) =
            let is = stopped_is ∙ p in
            let size = (good_at m).log_open.sized in
            let ready = run.next_ready plain_swap number s r g starts (at m) (good_at m) h in
            resumes m (omega arith) c (ap (λ (z : State). length z.log) is ∙ puts_long _ (at m) in_log)
            (rw is (cut_accepts (at m) (sizes_at m) _ _ ready size e)) (rw is (cut_before (at m) (sizes_at m) _ _ ready size e fs k))

-- ---- of any bytes: an empty log leaves nothing to be recovered, and a recovery after a recovery changes nothing more

pub empty_recovered : (s : State) → is_sealed s.log ≡ false → (recover_of s).state ≡ s
empty_recovered = recover.empty_rests

pub recovered_again : (s : State) → (recover_of (recover_of s).state).state ≡ (recover_of s).state
recovered_again = recover.recover_again
