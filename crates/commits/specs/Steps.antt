-- What the steps of the writing part ask for, and what they store.
use Rattle.std.specs.Prelude.{ℕ, ◌+◌, ◌*◌, ◌≤◌, ◌<◌, List, ◌++◌, map, ◌≡◌, length}
use Rattle.lists.specs.Each.{each}
use Rattle.lists.specs.Which.{which}
use Rattle.diagrams.specs.Layout.{record_size, records}
use Rattle.undo.specs.Stores.{state, Poke, run}
use Rattle.undo.specs.Wrote.{Wrote, Spent}
use Rattle.undo.specs.Log.{entry_size, of_record, of_pair, Entry, eight, packed, changed, changes, record_entry, entries_of, entries_needed, entries_held, swap_stores}
use Rattle.undo.specs.Sealed.{seal_pokes}
use Rattle.pen.specs.declared.Kind.{Kind}
use Rattle.pen.specs.declared.Kind.TheVariants.{Record, Pair}

-- ---- what is asked for

-- the numbers of records fit two bytes, and the log holds the entries
pub record Loggable (t u log : List ℕ) : Type 0 where
  pub long : length t ≤ length u
  pub few_records : length t ≤ record_size * 65536
  pub room : entries_needed t u ≤ entries_held log

-- and so does the level; the log has a seal
pub record Writable (t u o log : List ℕ) (k : ℕ) : Type 0 where
  pub loggable : Loggable t u log
  pub level : k + 1 < length o
  pub small_level : k < 65536
  pub seal : entry_size ≤ length log
  pub few_entries : length log ≤ 65536

-- ---- an entry

-- the number of a kind
abbrev pub code : Kind → ℕ
code Record = of_record
code Pair = of_pair

abbrev pub entry : Kind → ℕ → List ℕ → Entry
entry kind n b = record { kind = code kind; number = n; bytes = b }

-- ---- the log

-- the entries of the records below m that change
abbrev pub entries_below : List ℕ → List ℕ → ℕ → List Entry
entries_below t u m = map (record_entry t) (which (changed t u) m)

-- these n entries stand at the front of the log
pub record LoggedOf (es : List Entry) (f : ℕ) (l l' : List ℕ) (n r : ℕ) : Type 0 where
  pub wrote : Wrote f (run 0 (each packed es)) l l' r
  pub entries : n ≡ length es

-- those of all records that change
pub record AllLogged (t u : List ℕ) (f : ℕ) (l l' : List ℕ) (n r : ℕ) : Type 0 where
  pub logged : LoggedOf (entries_below t u (records t)) f l l' n r
  pub needed : n + 1 ≡ entries_needed t u

-- all entries, and the seal
abbrev pub log_pokes : (t u o log : List ℕ) (k : ℕ) → List Poke
log_pokes t u o log k = run 0 (each packed (entries_of (changes t u) k t o)) ++ seal_pokes log (entries_needed t u)

-- ---- the table

abbrev pub record_pokes : List ℕ → ℕ → List Poke
record_pokes u i = run (record_size * i) (eight u (record_size * i))

-- ---- the whole: a swap of levels k and k + 1 that makes the table u, cut after f stores
abbrev pub Committed : (t o log u : List ℕ) (k f : ℕ) (t' o' log' : List ℕ) (r : ℕ) → Type 0
Committed t o log u k f t' o' log' r =
    Spent f (swap_stores (state t o log) u k) (state t o log) (state t' o' log') r
