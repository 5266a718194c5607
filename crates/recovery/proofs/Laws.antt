-- The laws of a recovery.
use Prim.Native.Nat.{ℕ, ◌+◌, ◌*◌, ◌≤◌, ◌<◌}
use mathlib.Core.Bool.{Bool, true, false, cond}
use mathlib.Core.List.{List, [], ◌∷◌, ◌++◌, append-nil}
use mathlib.Core.Path.{◌≡◌, refl, ap, ap₂, sym, ◌∙◌}
use native.Mathlib.Numerals.{add-one}
use native.Mathlib.Omega.{arith}
use lib.ListN.{length, take}
use Rattle.std.specs.Prelude.{Ok, Err}
use Rattle.std.specs.Result.{IsErrAnd}
use borrow.Author.Rules.{rules}
use borrow.Author.Tests.{eq-eqb, ne_eqb}
use Rattle.lists.specs.Each.{each, each_append}
use Rattle.lists.specs.Tabulate.{tabulate, tabulate_snoc}
use Rattle.diagrams.specs.Layout.{record_size, records}
use Rattle.check_sizes.specs.Sizes.{bad_sizes, sizes_if}
use Rattle.checks.specs.Stages.{clear, Verdict, verdict_of, AllPass, also, passed_only, clear_only, stopped_by}
use Rattle.checks.specs.declared.Refusal.{Refusal}
use Rattle.undo.specs.Stores.{in_table, in_order, in_log, State, state, Store, poke, run, into, puts}
use Rattle.undo.specs.Calls.{Call, cut, only, only_cut, cut_late}
use Rattle.undo.specs.Wrote.{Wrote, Spent, spent_none, spent_more, spent_as, spent_in, spent_long}
use Rattle.undo.specs.Log.{entry_size, of_record, kind_at, number_at, eight, entry_at, seal_at, is_sealed, seal_count, counted}
use Rattle.undo.specs.Log.{entry_stores, putting, recovery_stores}
use Rattle.undo.specs.Counts.{enough}
use Rattle.check_log.specs.Slots.{Placeable}
use Rattle.recovery.specs.Fits.{EntryFits, EntriesFit, LogFits, Restored, entries_put, accepted_fits}
use Rattle.recovery.specs.Recover.{RecoverAnswer, recover_stages, recover_judged, recover_call, RecoverStopped, RecoverOutcome}
use Rattle.recovery.specs.Theorems.{few_stores}

-- ---- one entry

module _ (t o log : List ℕ) (k n : ℕ) where
  pub room_in_table : {x : List ℕ} → EntryFits t o (entry_at log k) → kind_at log k ≡ of_record → n ≡ number_at log k → x ≡ eight log (entry_size * k + 4)
      → record_size * n + length x ≤ length t
  unfolding entry_at
  room_in_table w e p q = omega (arith, w.in_table_lem e, ap length q)

  pub room_in_order : {x : List ℕ} → EntryFits t o (entry_at log k) → (kind_at log k ≡ of_record → ⊥) → n ≡ number_at log k
      → x ≡ eight log (entry_size * k + 4) → n + length (take 2 x) ≤ length o
  unfolding entry_at
  room_in_order w e p q = omega (arith, w.in_order_lem e, ap (λ (l : List ℕ). length (take 2 l)) q)

  pub back_in_table : {x t' : List ℕ} {f r : ℕ} → kind_at log k ≡ of_record → n ≡ number_at log k → x ≡ eight log (entry_size * k + 4)
      → Wrote f (run (record_size * n) x) t t' r → Spent f (entry_stores (entry_at log k)) (state t o log) (state t' o log) r
  unfolding entry_at entry_stores
  back_in_table {x} {t'} {f} {r} e p q w =
      rw (eq-eqb _ 0 e) (spent_as (spent_in in_table (state t o log) w) (ap₂ (λ (m : ℕ) (y : List ℕ). into in_table (run (record_size * m) y)) p q))

  pub back_in_order : {x o' : List ℕ} {f r : ℕ} → (kind_at log k ≡ of_record → ⊥) → n ≡ number_at log k → x ≡ eight log (entry_size * k + 4)
      → Wrote f (run n (take 2 x)) o o' r → Spent f (entry_stores (entry_at log k)) (state t o log) (state t o' log) r
  unfolding entry_at entry_stores
  back_in_order e p q w =
      rw (ne_eqb _ 0 e) (spent_as (spent_in in_order (state t o log) w)
      (ap₂ (λ (m : ℕ) (l : List ℕ). into in_order (run m (take 2 l))) p q))

pub ruleset back = (room_in_table, room_in_order, back_in_table, back_in_order, rules)

-- ---- one after the other

pub record Backs (t o log : List ℕ) (f k : ℕ) (t' o' : List ℕ) (r : ℕ) : Type 0 where
  pub long_t : length t' ≡ length t
  pub long_o : length o' ≡ length o
  pub spent : Spent f (entries_put log k) (state t o log) (state t' o' log) r

pub backs_begin : {t o log : List ℕ} {f : ℕ} → Backs t o log f 0 t o f
unfolding tabulate putting each
backs_begin = record { long_t = refl; long_o = refl; spent = spent_none }

pub backs_go : {t o log t1 o1 t2 o2 : List ℕ} {f k r r' : ℕ} → Backs t o log f k t1 o1 r
    → Spent r (entry_stores (entry_at log k)) (state t1 o1 log) (state t2 o2 log) r' → Backs t o log f (k + 1) t2 o2 r'
unfolding putting each
backs_go {log = log} {k = k} w s =
    record {
      long_t = spent_long in_table s ∙ w.long_t;
      long_o = spent_long in_order s ∙ w.long_o;
      spent = spent_as (spent_more w.spent s) (sym next);
    }
  where
    next : each entry_stores (tabulate (k + 1) (entry_at log)) ≡ each entry_stores (tabulate k (entry_at log)) ++ entry_stores (entry_at log k)
    next =
        ap (λ m. each entry_stores (tabulate m (entry_at log))) (add-one k)
        ∙ ap (each entry_stores) (tabulate_snoc k (entry_at log))
        ∙ each_append entry_stores (tabulate k (entry_at log)) (entry_at log k ∷ [])
        ∙ ap (λ (x : List Store). each entry_stores (tabulate k (entry_at log)) ++ x) (append-nil (entry_stores (entry_at log k)))

pub backs_end : {t o log t' o' : List ℕ} {n f k r : ℕ} → Backs t o log f k t' o' r → k ≡ n → Spent f (entries_put log n) (state t o log) (state t' o' log) r
backs_end w e = rw e at w.spent

pub backs_room : {t o log : List ℕ} {n k : ℕ} → EntriesFit t o log n → k < n → entry_size * k + entry_size ≤ length log
backs_room w h = omega (arith, w.room)

pub backs_fit : {t o log t' o' : List ℕ} {n f k r : ℕ} → Backs t o log f k t' o' r → EntriesFit t o log n → k < n → EntryFits t' o' (entry_at log k)
backs_fit w v h =
    let e = v.each _ h in
    record { in_table_lem = λ z. rw w.long_t (e.in_table_lem z); in_order_lem = λ z. rw w.long_o (e.in_order_lem z) }

pub ruleset backs = (backs_begin, backs_go, backs_end, backs_room, backs_fit, rules)

-- ---- the whole

counted_is : (log : List ℕ) {n : ℕ} → n ≡ counted log → is_sealed log ≡ true → n ≡ seal_count log
counted_is log counts z = counts ∙ ap (λ c. cond c (seal_count log) 0) z

module _ {t o log : List ℕ} {b : Bool} {n : ℕ} (counts : n ≡ counted log) (sealed : b ≡ is_sealed log) where
  pub nothing_put : {f : ℕ} → b ≡ false → Restored f (state t o log) n (state t o log)
  unfolding recovery_stores
  nothing_put {f} h = let z : is_sealed log ≡ false = sym sealed ∙ h in record { entries = counts; state = rw z (spent_none {f = f}).state }

  module _ (h : b ≡ true) where
    pub all_fit : LogFits t o log → EntriesFit t o log n
    all_fit w = let z = counted_is log counts (sym sealed ∙ h) in rw z (w.entries (sym sealed ∙ h))

    pub all_put : {t' o' log' : List ℕ} {f r r' : ℕ} → Spent f (entries_put log n) (state t o log) (state t' o' log) r
        → Wrote r (poke (seal_at log) 0 ∷ []) log log' r' → Restored f (state t o log) n (state t' o' log')
    unfolding recovery_stores
    all_put {t'} {o'} {log'} {f} {r} {r'} p q =
        let z : is_sealed log ≡ true = sym sealed ∙ h in
        let c : n ≡ seal_count log = counted_is log counts z in
        record { entries = counts; state = rw (z, ← c) (spent_more p (spent_in in_log (state t' o' log) q)).state }

pub ruleset whole = (nothing_put, all_fit, all_put, rules)

-- ---- the verdict

pub placeable : (t o : List ℕ) {m : ℕ} → bad_sizes t [] o ≡ false → m ≡ records t → Placeable m (length o)
placeable t o h e = let w = sizes_if t [] o h in (w.some_variables, omega (arith, w.few_records, w.few_variables))

-- ---- the entry

module _ {t o log : List ℕ} {v : Verdict} (judged : v ≡ verdict_of (recover_stages t o log)) where
  pub recover_refused : {f : ℕ} {w : Refusal} {a : RecoverAnswer} → v ≡ Err w → IsErrAnd a (λ u. u ≡ w) → RecoverStopped f (state t o log) a (state t o log)
  unfolding recover_call puts
  recover_refused {f} {w} e r =
      let c : only (Err w) ≡ recover_call (state t o log) = ap (recover_judged (state t o log)) (sym e ∙ judged) in
      record {
        answer = stopped_by r (ap (λ (x : Call RecoverAnswer). x.answer) c);
        state = sym (only_cut {Answer = RecoverAnswer} f (Err w) (state t o log)) ∙ ap (λ (x : Call RecoverAnswer). cut f x (state t o log)) c;
      }

  module _ (e : v ≡ clear) where
    pub recover_fits : LogFits t o log
    unfolding recover_stages
    recover_fits = go (clear_only (recover_stages t o log) (sym judged ∙ e))
      where
        go : AllPass (recover_stages t o log) → LogFits t o log
        go (also h rest) = accepted_fits t o log (sizes_if t [] o (passed_only 0 h)) rest

    pub recovered : {f n : ℕ} {s' : State} → Restored f (state t o log) n s' → RecoverStopped f (state t o log) (Ok n) s'
    unfolding recover_call
    recovered {f} {n} {s'} w =
        let c : recover_judged (state t o log) clear ≡ recover_call (state t o log) = ap (recover_judged (state t o log)) (sym e ∙ judged) in
        record {
          answer = ap Ok w.entries ∙ ap (λ (x : Call RecoverAnswer). x.answer) c;
          state = w.state ∙ ap (λ (x : Call RecoverAnswer). cut f x (state t o log)) c;
        }

-- ---- with enough fuel it isn't cut

pub recover_whole : {s s' : State} {a : RecoverAnswer} → RecoverStopped enough s a s' → RecoverOutcome s a s'
recover_whole {s} {s'} {a} w = λ i. record { answer = w.answer i; state = (w.state ∙ cut_late enough (recover_call s) s (few_stores s)) i }
