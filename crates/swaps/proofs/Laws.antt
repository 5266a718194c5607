-- One law for each way out of a function, over plain variables: its premises are what is known there.
use Prim.Native.Nat.{ℕ, ◌≤◌}
use mathlib.Core.Bool.{true, false}
use mathlib.Core.List.{List}
use mathlib.Core.Path.{◌≡◌, refl, ap, sym, ◌∙◌}
use native.Mathlib.Nat.{le_refl}
use native.Mathlib.Omega.{arith}
use borrow.Author.Rules.{rules}
use lib.ListN.{length}
use Rattle.std.specs.Prelude.{Ok, Err}
use Rattle.std.specs.Result.{IsErrAnd}
use Rattle.diagrams.specs.Layout.{records}
use Rattle.check_sizes.specs.Sizes.{sized, bad_sizes, sizes_if}
use Rattle.checks.specs.Stages.{Verdict, clear, verdict_of, clear_only, stopped_by}
use Rattle.checks.specs.declared.Refusal.{Refusal}
use Rattle.undo.specs.Stores.{State, state}
use Rattle.undo.specs.Calls.{Call, cut, only, only_cut, cut_late}
use Rattle.undo.specs.Wrote.{Spent, spent_none}
use Rattle.undo.specs.Log.{entries_needed, entries_held}
use Rattle.undo.specs.Counts.{enough}
use Rattle.check_log.proofs.Open.{open_sizes}
use Rattle.check_log.specs.Slots.{Placeable}
use Rattle.commits.specs.Steps.{Writable}
use Rattle.swap_rules.specs.Swap.{x_at, y_at}
use Rattle.swap_ways.specs.Ways.{table_after, way_of, is_clear}
use Rattle.swaps.specs.Outcome.{store_stages, swap_stages}
use Rattle.swaps.specs.Outcome.{SwapAnswer, swap_way, swap_after, swap_judged, swap_call, SwapOutcome, SwapStopped}
use Rattle.swap_ways.specs.Reckoning.{Reckoned}
use Rattle.swaps.specs.Work.{Storable, Swapped}
use Rattle.swaps.specs.Bytes.{length_after}
use Rattle.swap_ways.specs.Room.{clear_then}
use Rattle.swaps.proofs.Entry.{swap_starts, store_usable, few_stores}
use Rattle.swap_ways.specs.declared.Way.{Way}
use Rattle.swap_ways.specs.declared.Way.TheVariants as way

-- ---- the swap of the three buffers

module _ {t r o log : List ℕ} {k : ℕ} (able : Storable t r o log k) where
  module _ {held : ℕ} {w : Way} {image : List ℕ} (is_held : held ≡ entries_held log) (R : Reckoned t r o held k w image) where
    met : w ≡ swap_way (state t o log) r k
    met = R.answer ∙ ap (λ h. way_of t r o h k) is_held

    -- where something stands in the way, no store
    pub swapped_not : {f : ℕ} → (w ≡ way.Clear → ⊥) → Swapped f (state t o log) r k w (state t o log) f
    swapped_not {f} n = record { answer = met; spent = go w n }
      where
        go : (v : Way) → (v ≡ way.Clear → ⊥) → Spent f (swap_after (state t o log) r k v).stores (state t o log) (state t o log) f
        go way.Clear m = absurd (m refl)
        go (way.NoRoom l) m = spent_none
        go (way.LogShort l) m = spent_none

    -- nothing: the image is the table afterwards, and the log holds the entries
    module _ (e : w ≡ way.Clear) where
      new_table : image ≡ table_after t r o k
      new_table = R.image_is (ap is_clear e)

      clear_way : is_clear (way_of t r o (entries_held log) k) ≡ true
      clear_way = ap is_clear (sym met ∙ e)

      pub writable : Writable t image o log k
      writable =
          let entries : entries_needed t image ≤ entries_held log = rw new_table (clear_then t r o (entries_held log) k clear_way).1 in
          let sizes = able.log_sized in
          record {
            loggable = record { long = long; few_records = omega (arith, able.sized.few_records); room = entries };
            level = able.level;
            small_level = omega (arith, able.level, able.few_levels);
            seal = sizes.some;
            few_entries = omega (arith, sizes.few);
          }
        where
          long : length t ≤ length image
          long = rw (new_table, length_after t r (x_at o k) (y_at o k) able.sized.whole_records) (le_refl (length t))

pub ruleset stored = (swapped_not, writable, rules)

-- ---- the verdict

-- what is known once the sizes are right
module _ (t r o : List ℕ) (right : bad_sizes t r o ≡ false) where
  pub placeable : {m : ℕ} → m ≡ records t → Placeable m (length o)
  placeable {m} e = let w = sizes_if t r o right in (w.some_variables, omega (arith, w.few_records, w.few_variables))

pub some_level : (t r o log : List ℕ) {v : Verdict} → v ≡ verdict_of (store_stages t r o log) → v ≡ clear → 1 ≤ length o
some_level t r o log judged passed = (store_usable t r o log (clear_only (store_stages t r o log) (sym judged ∙ passed))).0.sizes.some_variables

-- ---- the entry

module _ (t r o log : List ℕ) (k : ℕ) {v : Verdict} (judged : v ≡ verdict_of (swap_stages t r o log k)) where
  abbrev s : State
  s = state t o log

  pub swap_refused : {f : ℕ} {w : Refusal} {a : SwapAnswer} → v ≡ Err w → IsErrAnd a (λ u. u ≡ w) → SwapStopped f s r k a s
  unfolding swap_call
  swap_refused {f} {w} e h =
      let c : only (Err w) ≡ swap_call s r k = ap (swap_judged s r k) (sym e ∙ judged) in
      record {
        answer = stopped_by h (ap (λ (x : Call SwapAnswer). x.answer) c);
        state = sym (only_cut {Answer = SwapAnswer} f (Err w) s) ∙ ap (λ (x : Call SwapAnswer). cut f x s) c;
      }

  module _ (e : v ≡ clear) where
    pub swap_storable : Storable t r o log k
    swap_storable =
        let w = swap_starts t r o log k (clear_only (swap_stages t r o log k) (sym judged ∙ e)) in
        record { sized = sized w.usable.sizes; level = w.level; few_levels = w.usable.sizes.few_variables; log_sized = open_sizes w.log_open }

    pub swap_done : {f left : ℕ} {w : Way} {s' : State} → Swapped f s r k w s' left → SwapStopped f s r k (Ok w) s'
    unfolding swap_call
    swap_done {f} {left} {w} {s'} z =
        let c : swap_after s r k w ≡ swap_call s r k = ap (swap_after s r k) z.answer ∙ ap (swap_judged s r k) (sym e ∙ judged) in
        record {
          answer = by w ∙ ap (λ (x : Call SwapAnswer). x.answer) c;
          state = z.spent.state ∙ ap (λ (x : Call SwapAnswer). cut f x s) c;
        }
      where
        by : (v : Way) → Ok v ≡ (swap_after s r k v).answer
        by way.Clear = refl
        by (way.NoRoom l) = refl
        by (way.LogShort l) = refl

-- ---- with enough fuel it isn't cut

pub swap_whole : {s s' : State} {r : List ℕ} {k : ℕ} {a : SwapAnswer} → SwapStopped enough s r k a s' → SwapOutcome s r k a s'
swap_whole {s} {s'} {r} {k} {a} w = λ i. record { answer = w.answer i; state = (w.state ∙ cut_late enough (swap_call s r k) s (few_stores s r k)) i }
