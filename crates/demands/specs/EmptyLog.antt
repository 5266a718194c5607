-- Request L6: with byte 0 of the seal at 0 a log is empty, whatever else stands in it. What Swap and Run answer, and what they do to table and order, depends
-- on nothing of it but its length.
use Prim.Native.Nat.{ℕ, zero, suc, ◌+◌, ◌<◌}
use Rattle.std.specs.Prelude.{Bool, cond, List, [], ◌∷◌, ◌++◌, ◌≡◌, length, get_or, Ok, Err}
use Rattle.std.proofs.Math.Bool.{true, false}
use Rattle.std.proofs.Common.{append_assoc, ap₂, ◌∙◌, subst}
use Rattle.std.proofs.Math.Path.{refl, ap, sym}
use Rattle.diagrams.specs.Layout.{records}
use Rattle.orders.specs.Permutation.{Permutation}
use Rattle.orders.specs.Exchange.{exchange}
use Rattle.plans.specs.Inversions.{left}
use Rattle.plans.specs.Plans.{Plan}
use Rattle.plans.specs.Numbered.{plan_of, no_plan}
use Rattle.plans.proofs.NumberedLaws.{plan_of_lawful}
use Rattle.slice_rules.specs.Slices as over
use Rattle.slice_rules.proofs.Slices as over_laws
use Rattle.slice_rules.specs.Slices.{Relay}
use Rattle.check_sizes.specs.Sizes.{bad_sizes}
use Rattle.checks.specs.Stages.{Verdict, Stage, stage_at, only, refusal, verdict_from, verdict_of, clear_only}
use Rattle.checks.specs.Check.{order_stage, table_stages}
use Rattle.checks.specs.declared.Fault.TheVariants.{BadSizes, BadOrder, NoLevel, NoPlan, BadLog}
use Rattle.undo.specs.Stores.{in_log, State, state, puts}
use Rattle.undo.specs.Calls.{Call, Ended, whole}
use Rattle.undo.specs.Mending.{puts_long}
use Rattle.undo.specs.Log.{seal_at, entries_held}
use Rattle.check_log.specs.BadLog.{bad_log_size, open_stages}
use Rattle.check_log.proofs.Open.{empty_verdict}
use Rattle.swap_ways.specs.Ways.{table_after, is_clear, way_of}
use Rattle.swaps.specs.Outcome.{SwapAnswer, swap_way, swap_stages, store_stages, no_level, swap_judged, swap_call, swap_of}
use Rattle.swaps.specs.Entry.{AbleOf}
use Rattle.swaps.proofs.Entry.{swap_starts, swap_clear, swap_stuck, swap_short}
use Rattle.swap_ways.specs.declared.Way.{Way}
use Rattle.swap_ways.specs.declared.Way.TheVariants as way
use Rattle.runs.specs.OneSwap.{plain_swap}
use Rattle.runs.specs.Run as run
use Rattle.runs.specs.Run.{stores_of, relay, bad_run_sizes, order_stages, run_stages, told, run_judged, run_call, run_of}
use Rattle.runs.specs.Answers.{ran_to}
use Rattle.runs.specs.Theorems.{Good, Startable}
use Rattle.runs.proofs.Theorems.{run_starts, run_is, good_start, relay_laws, table_after_lem, order_after}

-- two logs of one length, both empty
pub record Empty (l m : List ℕ) : Type 0 where
  pub long : length l ≡ length m
  pub first : get_or l (seal_at l) 0 ≡ 0
  pub second : get_or m (seal_at m) 0 ≡ 0

-- two outcomes with one answer, one table and one order
pub record Agree {A : Type 0} (x y : Ended A) : Type 0 where
  pub answer : x.answer ≡ y.answer
  pub table : x.state.table ≡ y.state.table
  pub order : x.state.order ≡ y.state.order

agree_by : {A : Type 0} {x x' y y' : Ended A} → x ≡ x' → y ≡ y' → Agree x' y' → Agree x y
agree_by {A} {x} {x'} {y} {y'} p q a = subst (λ (z : Ended A). Agree z y) (sym p) (subst (λ (z : Ended A). Agree x' z) (sym q) a)

-- ---- the checks

same_bad : (l m : List ℕ) → length l ≡ length m → bad_log_size l ≡ bad_log_size m
unfolding bad_log_size
same_bad l m e = rw e

module _ {l m : List ℕ} (e : Empty l m) where
  open_same : (N n : ℕ) (more : List Stage) → verdict_of (open_stages l N n ++ more) ≡ verdict_of (open_stages m N n ++ more)
  open_same N n more =
      empty_verdict l N n more e.first
      ∙ ap (λ b. cond b (Err (refusal BadLog 0)) (verdict_of more)) (same_bad l m e.long)
      ∙ sym (empty_verdict m N n more e.second)

  -- and of two rows after them
  open_rows : (N n : ℕ) (ss more : List Stage) → verdict_of ((open_stages l N n ++ ss) ++ more) ≡ verdict_of ((open_stages m N n ++ ss) ++ more)
  open_rows N n ss more =
      ap verdict_of (append_assoc (open_stages l N n) ss more) ∙ open_same N n (ss ++ more) ∙ sym (ap verdict_of (append_assoc (open_stages m N n) ss more))

  swap_verdict : (t r o : List ℕ) (k : ℕ) → verdict_of (swap_stages t r o l k) ≡ verdict_of (swap_stages t r o m k)
  unfolding swap_stages store_stages
  swap_verdict t r o k =
      ap (verdict_from BadSizes (only 0 (bad_sizes t r o)) 1)
      (open_rows (records t) (length o) (order_stage BadOrder o ∷ table_stages t r o) (stage_at NoLevel k (no_level o k) ∷ []))

  run_verdict : (number : ℕ) (t r o g : List ℕ) → verdict_of (run_stages plain_swap number t r o g l) ≡ verdict_of (run_stages plain_swap number t r o g m)
  unfolding run_stages run.store_stages
  run_verdict number t r o g =
      ap (verdict_from BadSizes (only 0 (bad_run_sizes t r o g)) 1)
      (open_rows (records t) (length o) (order_stages plain_swap t r o g) (stage_at NoPlan number (no_plan number) ∷ []))

  held_same : entries_held l ≡ entries_held m
  held_same = rw e.long

  -- ---- Swap

  module _ (t r o : List ℕ) (k : ℕ) where
    abbrev s : State
    s = state t o l

    abbrev q : State
    q = state t o m

    ways : swap_way s r k ≡ swap_way q r k
    ways = ap (λ h. way_of t r o h k) held_same

    by_way : AbleOf s r k → AbleOf q r k → (w : Way) → swap_way s r k ≡ w → Agree (swap_of s r k) (swap_of q r k)
    unfolding puts
    by_way a b way.Clear c =
        agree_by (swap_clear s r k a (ap is_clear c)) (swap_clear q r k b (ap is_clear (sym ways ∙ c))) (record { answer = refl; table = refl; order = refl })
    by_way a b (way.NoRoom x) c =
        agree_by (ap (λ (z : Call SwapAnswer). whole z s) (swap_stuck s r k a x c))
        (ap (λ (z : Call SwapAnswer). whole z q) (swap_stuck q r k b x (sym ways ∙ c)))
        (record { answer = refl; table = refl; order = refl })
    by_way a b (way.LogShort x) c =
        agree_by (ap (λ (z : Call SwapAnswer). whole z s) (swap_short s r k a x c))
        (ap (λ (z : Call SwapAnswer). whole z q) (swap_short q r k b x (sym ways ∙ c)))
        (record { answer = refl; table = refl; order = refl })

    -- any bytes, refused ones too
    pub swap_ignores : Agree (swap_of s r k) (swap_of q r k)
    unfolding swap_call puts
    swap_ignores = go (verdict_of (swap_stages t r o l k)) refl
      where
        go : (v : Verdict) → verdict_of (swap_stages t r o l k) ≡ v → Agree (swap_of s r k) (swap_of q r k)
        go (Ok _) c =
            by_way (swap_starts t r o l k (clear_only (swap_stages t r o l k) c))
            (swap_starts t r o m k (clear_only (swap_stages t r o m k) (sym (swap_verdict t r o k) ∙ c))) (swap_way s r k) refl
        go (Err w) c =
            agree_by (ap (λ v. whole (swap_judged s r k v) s) c) (ap (λ v. whole (swap_judged q r k v) q) (sym (swap_verdict t r o k) ∙ c))
            (record { answer = refl; table = refl; order = refl })

-- ---- Run

-- two states with one table, one order, and logs of one length
pub record Like (x y : State) : Type 0 where
  pub table : x.table ≡ y.table
  pub order : x.order ≡ y.order
  pub long : length x.log ≡ length y.log

module _ (number : ℕ) (r g : List ℕ) (permuted : Permutation g) where
  abbrev R : Relay State Way
  R = relay plain_swap r

  abbrev plan : Plan
  plan = plan_of number

  abbrev Fine : State → Type 0
  Fine = Good plain_swap r (length g)

  like_goes : {x y : State} → Like x y → over.goes R plan g x ≡ over.goes R plan g y
  unfolding over.goes over.arrived over.next relay
  like_goes k = rw (k.table, k.order, k.long)

  like_judged : {x y : State} → Like x y → over.judge R plan g x ≡ over.judge R plan g y
  unfolding over.judge over.arrived over.next relay
  like_judged k = rw (k.table, k.order, k.long)

  -- a planned swap, and what it leaves
  module _ (z : State) (f : Fine z) (e : over.goes R plan g z ≡ true) where
    abbrev next : ℕ
    next = over.next R plan g z

    fits : (next + 1 < length g) × (over.fits R z next ≡ true)
    fits = over_laws.planned_fits R plan g Fine (relay_laws plain_swap r (length g)) (plan_of_lawful number) permuted z f e

    after_table : (over.stepped R plan g z).table ≡ table_after z.table r z.order next
    unfolding relay
    after_table = table_after_lem plain_swap r (length g) z next f fits.0 fits.1

    after_order : (over.stepped R plan g z).order ≡ exchange z.order next
    unfolding relay
    after_order = order_after plain_swap r (length g) z next f fits.0 fits.1

    after_log : length (over.stepped R plan g z).log ≡ length z.log
    unfolding relay
    after_log = puts_long (stores_of plain_swap r z next) z in_log

    after_fine : Fine (over.stepped R plan g z)
    after_fine = over_laws.good_stepped R plan g Fine (relay_laws plain_swap r (length g)) (plan_of_lawful number) permuted z f e

  next_same : {x y : State} → Like x y → over.next R plan g x ≡ over.next R plan g y
  unfolding over.next relay
  next_same k = rw k.order

  new_table : {x y : State} → Like x y
      → table_after x.table r x.order (over.next R plan g x) ≡ table_after y.table r y.order (over.next R plan g y)
  new_table {x} {y} k =
      ap (λ z. table_after z r x.order (over.next R plan g x)) k.table
      ∙ ap₂ (λ (p : List ℕ) (i : ℕ). table_after y.table r p i) k.order (next_same k)

  like_stepped : {x y : State} → Fine x → Fine y → Like x y → over.goes R plan g x ≡ true → Like (over.stepped R plan g x) (over.stepped R plan g y)
  like_stepped {x} {y} a b k e =
      let c : over.goes R plan g y ≡ true = sym (like_goes k) ∙ e in
      record {
        table = after_table x a e ∙ new_table k ∙ sym (after_table y b c);
        order = after_order x a e ∙ ap₂ exchange k.order (next_same k) ∙ sym (after_order y b c);
        long = after_log x a e ∙ k.long ∙ sym (after_log y b c);
      }

  -- all that a budget makes
  pub like_leaves : (b : ℕ) (x y : State) → Fine x → Fine y → Like x y
      → Like (over.leaves R plan g b x) (over.leaves R plan g b y) × (over.made R plan g b x ≡ over.made R plan g b y)
  unfolding over.leaves over.made
  like_leaves zero x y a c k = (k, refl)
  like_leaves (suc b) x y a c k =
      by (over.goes R plan g x) refl (λ e. like_leaves b _ _ (after_fine x a e) (after_fine y c (sym (like_goes k) ∙ e)) (like_stepped a c k e))
    where
      by : (v : Bool) → over.goes R plan g x ≡ v
          → (over.goes R plan g x ≡ true → Like (over.leaves R plan g b (over.stepped R plan g x)) (over.leaves R plan g b (over.stepped R plan g y))
          × (over.made R plan g b (over.stepped R plan g x) ≡ over.made R plan g b (over.stepped R plan g y)))
          → Like (over.leaves R plan g (suc b) x) (over.leaves R plan g (suc b) y) × (over.made R plan g (suc b) x ≡ over.made R plan g (suc b) y)
      by true e h =
          let (p, q) = h e in
          let d : over.goes R plan g y ≡ true = sym (like_goes k) ∙ e in (
            rw (over_laws.leaves_goes R plan g b x e, over_laws.leaves_goes R plan g b y d) p,
            over_laws.made_goes R plan g b x e ∙ ap suc q ∙ sym (over_laws.made_goes R plan g b y d),
          )
      by false e h =
          let d : over.goes R plan g y ≡ false = sym (like_goes k) ∙ e in (
            rw (over_laws.leaves_rests R plan g (suc b) x e, over_laws.leaves_rests R plan g (suc b) y d) k,
            over_laws.made_rests R plan g (suc b) x e ∙ sym (over_laws.made_rests R plan g (suc b) y d),
          )

  -- so two runs that start from such states agree
  pub like_runs : (b : ℕ) (x y : State) → Startable plain_swap number x r g → Startable plain_swap number y r g → Like x y
      → Agree (run_of plain_swap number x r g b) (run_of plain_swap number y r g b)
  unfolding ran_to over.slice relay
  like_runs b x y a c k =
      let (p, q) = like_leaves b x y (good_start plain_swap number x r g a) (good_start plain_swap number y r g c) k in
      agree_by (run_is plain_swap number x r g a b) (run_is plain_swap number y r g c b)
      (record {
        answer = λ i. told (q i) (left (p.order i) g) (like_judged p i);
        table = p.table;
        order = p.order;
      })

module _ {l m : List ℕ} (e : Empty l m) (number : ℕ) (t r o g : List ℕ) (budget : ℕ) where
  -- any bytes, refused ones too
  pub run_ignores : Agree (run_of plain_swap number (state t o l) r g budget) (run_of plain_swap number (state t o m) r g budget)
  unfolding run_call puts
  run_ignores = go (verdict_of (run_stages plain_swap number t r o g l)) refl
    where
      go : (v : Verdict) → verdict_of (run_stages plain_swap number t r o g l) ≡ v
          → Agree (run_of plain_swap number (state t o l) r g budget) (run_of plain_swap number (state t o m) r g budget)
      go (Ok _) c =
          let a = run_starts plain_swap (state t o l) r g number (clear_only (run_stages plain_swap number t r o g l) c) in
          let d =
          run_starts plain_swap (state t o m) r g number (clear_only (run_stages plain_swap number t r o g m) (sym (run_verdict e number t r o g) ∙ c)) in
          like_runs number r g a.ready.target budget (state t o l) (state t o m) a d (record { table = refl; order = refl; long = e.long })
      go (Err w) c =
          agree_by (ap (λ v. whole (run_judged plain_swap (plan_of number) (state t o l) r g budget v) (state t o l)) c)
          (ap (λ v. whole (run_judged plain_swap (plan_of number) (state t o m) r g budget v) (state t o m)) (sym (run_verdict e number t r o g) ∙ c))
          (record { answer = refl; table = refl; order = refl })
