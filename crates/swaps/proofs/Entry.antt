-- Laws of what specs/Entry.antt defines.
use Rattle.std.specs.Prelude.{ℕ, ◌+◌, ◌-◌, ◌≤◌, ◌<◌, Bool, true, ◌≡◌, Ok, Err}
use Rattle.std.proofs.Common.{arith, sym, ◌∙◌}
use Rattle.std.proofs.Math.Bool.{false}
use mathlib.Core.List.{List, [], ◌∷◌}
use Rattle.std.proofs.Math.Path.{refl, ap}
use Rattle.std.proofs.Math.ListN.{length}
use borrow.Author.Tests.{leb-false, lt-leb}
use Rattle.lists.specs.Apart.{apart}
use Rattle.lists.specs.Says.{Says}
use Rattle.diagrams.specs.Layout.{records, root_count, root_at, variable_at, is_free}
use Rattle.diagrams.specs.Lookup.{lookup}
use Rattle.diagrams.specs.Value.{value}
use Rattle.checks.specs.Stages.{Verdict, clear, Stage, AllPass, none, also, both_rows, rows_pass, FailsFirst, stage_at, refusal, verdict_of}
use Rattle.checks.specs.Stages.{only_passed, passed_only, clear_if, clear_only, refused_if, refused_only}
use Rattle.check_names.specs.Names.{NamedByRoot, NamedByRecord}
use Rattle.checks.specs.Check.{order_stage, table_stages, check_stages, used}
use Rattle.checks.specs.Usable.{Usable}
use Rattle.checks.proofs.Usable.{usable_if, usable_then, all_pass, passes_all}
use Rattle.checks.specs.declared.Refusal.{Refusal}
use Rattle.checks.specs.declared.Fault.{Fault}
use Rattle.checks.specs.declared.Fault.TheVariants.{BadOrder, NoLevel}
use Rattle.undo.specs.Stores.{State, Store, puts}
use Rattle.undo.specs.Calls.{Call, Ended, whole, only}
use Rattle.undo.specs.Log.{entries_held}
use Rattle.undo.specs.Survives.{Ready}
use Rattle.undo.proofs.Survives.{uncut}
use Rattle.undo.specs.Counts.{enough}
use Rattle.undo.proofs.Counts.{swap_few}
use Rattle.check_log.specs.BadLog.{open_stages}
use Rattle.check_log.specs.Open.{Open}
use Rattle.check_log.proofs.Open.{open_if, open_then, open_sizes}
use Rattle.swap_rules.specs.Swap.{x_at, y_at, crosses}
use Rattle.swap_rules.specs.Theorem.{Cofactors}
use Rattle.swap_preparing.specs.Table.{fits_in}
use Rattle.swap_ways.specs.Ways.{table_after, is_clear, way_clear}
use Rattle.swap_ways.specs.Room.{Needed, Dying, clear_fits, clear_then}
use Rattle.swaps.specs.Outcome.{SwapAnswer, store_stages, no_level, swap_stages, swap_way, swap_after, swap_judged, swap_call, swap_of, SwapOutcome}
use Rattle.swaps.specs.Bytes.{length_after, swap_usable, swap_root_value, swap_cofactors, swap_used, swap_frees_exactly}
use Rattle.swaps.specs.Work.{Swappable}
use Rattle.swap_ways.specs.declared.Lack.{Lack}
use Rattle.swap_ways.specs.declared.Short.{Short}
use Rattle.swap_ways.specs.declared.Way.{Way}
use Rattle.swap_ways.specs.declared.Way.TheVariants as way
use Rattle.swaps.specs.Entry.{AbleOf, state_after}

-- ---- what passes Swap's checks

-- a table that is accepted, two levels of its order, and an empty log
module _ (t r o log : List ℕ) where
  pub store_usable : AllPass (store_stages t r o log) → Usable t r o × Open log
  unfolding store_stages check_stages
  store_usable (also h rest) =
      let w = both_rows (open_stages log (records t) (length o)) (order_stage BadOrder o ∷ table_stages t r o) rest in
      (usable_if t r o (passes_all t r o (also h w.1)), open_if log (records t) (length o) w.0)

  store_passes : Usable t r o → Open log → AllPass (store_stages t r o log)
  unfolding store_stages check_stages
  store_passes u p = go (all_pass t r o (usable_then t r o u))
    where
      go : AllPass (check_stages t r o) → AllPass (store_stages t r o log)
      go (also h rest) =
          let first = open_then log (records t) (length o) p in
          also h (rows_pass (open_stages log (records t) (length o)) (order_stage BadOrder o ∷ table_stages t r o) first rest)

  module _ (k : ℕ) where
    abbrev level_stage : List Stage
    level_stage = stage_at NoLevel k (no_level o k) ∷ []

    pub swap_starts : AllPass (swap_stages t r o log k) → Swappable t r o log k
    unfolding swap_stages
    swap_starts p =
        let w = both_rows (store_stages t r o log) level_stage p in
        let (u, q) = store_usable w.0 in
        record { usable = u; level = there w.1; log_open = q }
      where
        there : AllPass level_stage → k + 1 < length o
        there (also h rest) = omega (arith, leb-false (length o - 1) k (passed_only k h))

    pub swap_passes : Swappable t r o log k → AllPass (swap_stages t r o log k)
    unfolding swap_stages
    swap_passes a =
        let below : no_level o k ≡ false = lt-leb (length o - 1) k (omega (arith, a.level)) in
        rows_pass (store_stages t r o log) level_stage (store_passes a.usable a.log_open) (also (only_passed k below) none)

module _ (s : State) (r : List ℕ) (k : ℕ) (able : AbleOf s r k) where
  pub call_is : swap_call s r k ≡ swap_after s r k (swap_way s r k)
  unfolding swap_call
  call_is =
      ap (swap_judged s r k)
      (clear_if (swap_stages s.table r s.order s.log k) (swap_passes s.table r s.order s.log k able))

  -- what stands ready for the stores of a swap
  pub swap_ready : is_clear (swap_way s r k) ≡ true → Ready s (table_after s.table r s.order k) k
  swap_ready e =
      let sizes = able.usable.sizes in
      record {
        long = sym (length_after s.table r (x_at s.order k) (y_at s.order k) sizes.whole_records);
        whole = omega (arith, sizes.whole_records);
        level = able.level;
        room = (clear_then s.table r s.order (entries_held s.log) k e).1;
        empty = able.log_open.empty;
      }

  -- it is made where nothing stands in the way
  pub swap_clear : is_clear (swap_way s r k) ≡ true → swap_of s r k ≡ record { answer = Ok way.Clear; state = state_after s r k }
  swap_clear e =
      let clear = way_clear s.table r s.order (entries_held s.log) k e in
      ap (λ (c : Call SwapAnswer). whole c s) (call_is ∙ ap (swap_after s r k) clear)
      ∙ ap (λ (z : State). record { answer = Ok way.Clear; state = z }) (uncut s (table_after s.table r s.order k) k (swap_ready e))

  -- otherwise the answer is what stands in the way, and nothing changes
  pub swap_stuck : (l : Lack) → swap_way s r k ≡ way.NoRoom l → swap_call s r k ≡ only (Ok (way.NoRoom l))
  swap_stuck l e = call_is ∙ ap (swap_after s r k) e

  pub swap_short : (l : Short) → swap_way s r k ≡ way.LogShort l → swap_call s r k ≡ only (Ok (way.LogShort l))
  swap_short l e = call_is ∙ ap (swap_after s r k) e

-- ---- and of no other one: what isn't refused was accepted, and has the two levels and an empty log

module _ (s : State) (r : List ℕ) (k : ℕ) where
  abbrev t : List ℕ
  t = s.table

  abbrev o : List ℕ
  o = s.order

  abbrev held : ℕ
  held = entries_held s.log

  abbrev stages : List Stage
  stages = swap_stages t r o s.log k

  -- an answer that is no refusal comes from a table that passed, and is what stands in the way
  pub unrefused : (a : SwapAnswer) → (swap_call s r k).answer ≡ a → ((f : Refusal) → a ≡ Err f → ⊥)
      → AbleOf s r k × ((swap_after s r k (swap_way s r k)).answer ≡ a)
  unfolding swap_call
  unrefused a e n = go (verdict_of stages) refl e
    where
      go : (v : Verdict) → verdict_of stages ≡ v → (swap_judged s r k v).answer ≡ a → AbleOf s r k × ((swap_after s r k (swap_way s r k)).answer ≡ a)
      go (Ok _) c q = (swap_starts t r o s.log k (clear_only stages c), q)
      go (Err f) c q = absurd (n f (sym q))

  pub made_only : (swap_call s r k).answer ≡ Ok way.Clear → AbleOf s r k × (is_clear (swap_way s r k) ≡ true)
  made_only e = let (w, q) = unrefused (Ok way.Clear) e (λ f q. apart (cc)) in (w, go (swap_way s r k) q)
    where
      go : (w : Way) → (swap_after s r k w).answer ≡ Ok way.Clear → is_clear w ≡ true
      go way.Clear q = refl
      go (way.NoRoom l) q = apart (cc)
      go (way.LogShort l) q = apart (cc)

  pub lacks_only : (l : Lack) → (swap_call s r k).answer ≡ Ok (way.NoRoom l) → AbleOf s r k × (swap_way s r k ≡ way.NoRoom l)
  lacks_only l e = let (w, q) = unrefused (Ok (way.NoRoom l)) e (λ f q. apart (cc)) in (w, go (swap_way s r k) q)
    where
      go : (w : Way) → (swap_after s r k w).answer ≡ Ok (way.NoRoom l) → w ≡ way.NoRoom l
      go way.Clear q = apart (cc)
      go (way.NoRoom m) q = let p : m ≡ l = cc in ap way.NoRoom p
      go (way.LogShort m) q = apart (cc)

  pub short_only : (l : Short) → (swap_call s r k).answer ≡ Ok (way.LogShort l) → AbleOf s r k × (swap_way s r k ≡ way.LogShort l)
  short_only l e = let (w, q) = unrefused (Ok (way.LogShort l)) e (λ f q. apart (cc)) in (w, go (swap_way s r k) q)
    where
      go : (w : Way) → (swap_after s r k w).answer ≡ Ok (way.LogShort l) → w ≡ way.LogShort l
      go way.Clear q = apart (cc)
      go (way.NoRoom m) q = apart (cc)
      go (way.LogShort m) q = let p : m ≡ l = cc in ap way.LogShort p

  -- so a made swap leaves an accepted table under the exchanged order, and every root's values
  module _ (made : (swap_call s r k).answer ≡ Ok way.Clear) where
    able : AbleOf s r k
    able = (made_only made).0

    fits : fits_in t r (x_at o k) (y_at o k) ≡ true
    fits = clear_fits t r o held k (made_only made).1

    abbrev after : State
    after = (swap_of s r k).state

    pub made_is : swap_of s r k ≡ record { answer = Ok way.Clear; state = state_after s r k }
    made_is = swap_clear s r k able (made_only made).1

    state_is : after ≡ state_after s r k
    state_is = ap (λ (e : Ended SwapAnswer). e.state) made_is

    pub made_usable : Usable after.table r after.order
    made_usable = rw state_is (swap_usable t r o k able.usable able.level fits)

    pub made_root_value : (inputs : ℕ → Bool) (position : ℕ) → position < root_count r
        → value (lookup after.table) inputs (length o) (root_at r position) ≡ value (lookup t) inputs (length o) (root_at r position)
    made_root_value inputs position b = rw state_is (swap_root_value t r o k able.usable able.level fits inputs position b)

    pub made_cofactors : (q : ℕ) → crosses (lookup t) (x_at o k) (y_at o k) q ≡ true
        → Cofactors (lookup t) (lookup after.table) (length o) (x_at o k) (y_at o k) q
    made_cofactors q c = rw state_is (swap_cofactors t r o k able.usable able.level fits q c)

    -- 4.5: a y record from before is free afterwards exactly where no root and, afterwards, no used record names it
    pub made_frees : (i : ℕ) → i < records t → variable_at t i ≡ y_at o k
        → Says (is_free after.table i) ((NamedByRoot r (i + 2) → ⊥) × (NamedByRecord after.table (i + 2) → ⊥))
    made_frees i b y = rw state_is (swap_frees_exactly t r o k able.usable able.level fits i b y)

    pub made_used : used after.table + Dying t r o k ≡ used t + Needed t o k
    made_used = rw state_is (swap_used t r o k able.usable able.level fits)

  -- a swap that isn't made makes no store
  pub unmade_keeps : ((swap_call s r k).answer ≡ Ok way.Clear → ⊥) → (swap_call s r k).stores ≡ []
  unfolding swap_call
  unmade_keeps n = go (verdict_of stages) n
    where
      stuck : (w : Way) → ((swap_after s r k w).answer ≡ Ok way.Clear → ⊥) → (swap_after s r k w).stores ≡ []
      stuck way.Clear m = absurd (m refl)
      stuck (way.NoRoom l) m = refl
      stuck (way.LogShort l) m = refl

      go : (v : Verdict) → ((swap_judged s r k v).answer ≡ Ok way.Clear → ⊥) → (swap_judged s r k v).stores ≡ []
      go (Ok _) m = stuck (swap_way s r k) m
      go (Err f) m = refl

  -- and so changes nothing
  pub unmade_state : ((swap_call s r k).answer ≡ Ok way.Clear → ⊥) → (swap_of s r k).state ≡ s
  unfolding puts
  unmade_state n = ap (λ (l : List Store). puts l s) (unmade_keeps n)

  -- one outcome for each input
  pub swap_one : {a b : SwapAnswer} {s₁ s₂ : State} → SwapOutcome s r k a s₁ → SwapOutcome s r k b s₂ → (a ≡ b) × (s₁ ≡ s₂)
  swap_one p q = (ap (λ (e : Ended SwapAnswer). e.answer) (p ∙ sym q), ap (λ (e : Ended SwapAnswer). e.state) (p ∙ sym q))

  -- Swap refuses with n at p exactly where check n fails at p, at no place before it, and every earlier check passes everywhere; it makes no store then
  pub swap_refuses : (n : Fault) (p : ℕ) → FailsFirst stages n p → swap_call s r k ≡ only (Err (refusal n p))
  unfolding swap_call
  swap_refuses n p f = ap (swap_judged s r k) (refused_if stages n p f)

  pub swap_refuses_only : (n : Fault) (p : ℕ) → (swap_call s r k).answer ≡ Err (refusal n p) → FailsFirst stages n p
  unfolding swap_call
  swap_refuses_only n p e = refused_only stages n p (go (verdict_of stages) e)
    where
      not_refused : (w : Way) → (swap_after s r k w).answer ≡ Err (refusal n p) → ◌≡◌ {A = Verdict} clear (Err (refusal n p))
      not_refused way.Clear q = apart (cc)
      not_refused (way.NoRoom l) q = apart (cc)
      not_refused (way.LogShort l) q = apart (cc)

      go : (v : Verdict) → (swap_judged s r k v).answer ≡ Err (refusal n p) → v ≡ Err (refusal n p)
      go (Ok _) q = not_refused (swap_way s r k) q
      go (Err f) q = cc

  -- no swap makes more stores than the library has fuel for
  pub few_stores : length (swap_call s r k).stores ≤ enough
  few_stores = go (swap_call s r k).answer refl
    where
      none_made : ((swap_call s r k).answer ≡ Ok way.Clear → ⊥) → length (swap_call s r k).stores ≤ enough
      none_made n = rw (unmade_keeps n) (omega arith)

      go : (a : SwapAnswer) → (swap_call s r k).answer ≡ a → length (swap_call s r k).stores ≤ enough
      go (Ok way.Clear) e =
          let (able, clear) = made_only e in
          let stores = call_is s r k able ∙ ap (swap_after s r k) (way_clear t r o held k clear) in
          let sizes = open_sizes able.log_open in
          rw stores (omega (arith, swap_few s (table_after t r o k) k (clear_then t r o held k clear).1 sizes.few))
      go (Ok (way.NoRoom l)) e = none_made (λ q. apart (cc))
      go (Ok (way.LogShort l)) e = none_made (λ q. apart (cc))
      go (Err f) e = none_made (λ q. apart (cc))
