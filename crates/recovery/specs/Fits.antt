-- A log whose counted entries lie within the table and the order, as check 14 leaves it.
use Rattle.std.specs.Prelude.{ℕ, ◌+◌, ◌-◌, ◌*◌, ◌≤◌, ◌<◌, true, false, ◌||◌, List, [], ◌≡◌, length}
use Rattle.std.proofs.Common.{arith, leb-false, eq-eqb, ne_eqb}
use Rattle.lists.specs.Tabulate.{tabulate}
use Rattle.lists.specs.Truth.{or_neither}
use Rattle.diagrams.specs.Layout.{record_size, records}
use Rattle.check_sizes.specs.Sizes.{Sizes}
use Rattle.checks.specs.Stages.{AllPass, also, passed_only}
use Rattle.undo.specs.Stores.{State, Store}
use Rattle.undo.specs.Log.{entry_size, Entry, of_record, kind_at, number_at, entry_at, log_records, is_sealed, seal_count, counted, putting, recovery_cut}
use Rattle.check_log.specs.BadLog.{past, malformed, repeats, bad_entry, entry_stages, log_stages, log_sizes, seal_few}

pub record EntryFits (t o : List ℕ) (e : Entry) : Type 0 where
  pub in_table_lem : e.kind ≡ of_record → record_size * e.number + record_size ≤ length t
  pub in_order_lem : (e.kind ≡ of_record → ⊥) → e.number + 2 ≤ length o

pub record EntriesFit (t o log : List ℕ) (n : ℕ) : Type 0 where
  pub room : entry_size * n ≤ length log
  pub each : (k : ℕ) → k < n → EntryFits t o (entry_at log k)

pub record LogFits (t o log : List ℕ) : Type 0 where
  pub seal : entry_size ≤ length log
  pub entries : is_sealed log ≡ true → EntriesFit t o log (seal_count log)

-- the stores of the first n entries
abbrev pub entries_put : List ℕ → ℕ → List Store
entries_put log n = putting (tabulate n (entry_at log))

-- the entries of a log are counted and put back, cut after f stores
pub record Restored (f : ℕ) (s : State) (n : ℕ) (s' : State) : Type 0 where
  pub entries : n ≡ counted s.log
  pub state : s' ≡ recovery_cut f s

-- ---- a log that isn't refused fits

entry_past : (log : List ℕ) (N n k : ℕ) → bad_entry log N n k ≡ false → past log N n k ≡ false
unfolding bad_entry
entry_past log N n k e = (or_neither (malformed log k) (past log N n k) (or_neither (malformed log k || past log N n k) (repeats log k) e).0).1

entry_fits : (t o log : List ℕ) (k : ℕ) → length t ≡ record_size * records t → past log (records t) (length o) k ≡ false → EntryFits t o (entry_at log k)
unfolding entry_at past
entry_fits t o log k whole e = record {
  in_table_lem = λ z. omega (arith, leb-false (records t) (number_at log k) (rw (eq-eqb (kind_at log k) of_record z) at e));
  in_order_lem = λ z. omega (arith, leb-false (length o - 1) (number_at log k) (rw (ne_eqb (kind_at log k) of_record z) at e));
}

pub accepted_fits : (t o log : List ℕ) → Sizes t [] o → AllPass (log_stages log (records t) (length o)) → LogFits t o log
unfolding log_stages entry_stages
accepted_fits t o log sizes (also size (also seal (also entries rest))) = record {
  seal = long;
  entries = λ s. record {
    room = omega (arith, seal_few log s (passed_only (log_records log - 1) seal), long);
    each = λ k h. entry_fits t o log k whole (entry_past log (records t) (length o) k (entries.at k (rw s h)));
  };
}
  where
    long : entry_size ≤ length log
    long = (log_sizes log (passed_only 0 size)).some

    whole : length t ≡ record_size * records t
    whole = omega (arith, sizes.whole_records)
