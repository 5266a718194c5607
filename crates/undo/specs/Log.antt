-- The undo log: records of 16 bytes, entries first and the seal last. What a swap stores, in which order, and what a recovery stores.
-- docs/RULES.md, 7.
use Rattle.std.specs.Prelude.{ℕ, ◌+◌, ◌-◌, ◌*◌, ◌/◌, ◌%◌, Bool, cond, not, ◌||◌, List, [], ◌∷◌, ◌++◌, map, eqb, length, get_or, take, replicate}
use Rattle.lists.specs.Each.{each}
use Rattle.lists.specs.Tabulate.{tabulate}
use Rattle.lists.specs.Which.{which}
use Rattle.diagrams.specs.Layout.{record_size, records, pair_at}
use Rattle.orders.specs.Exchange.{exchange}
use Rattle.undo.specs.Stores.{in_table, in_order, in_log, State, Store, store, poke, run, into, puts}

-- ---- the records of a log

-- bytes in a record of the log
abbrev pub entry_size : ℕ
entry_size = 16

-- the most records that a log has
abbrev pub most_log_records : ℕ
most_log_records = 4096

abbrev pub log_records : List ℕ → ℕ
log_records log = length log / entry_size

-- what an entry is of, and the eight bytes that were there
pub record Entry : Type 0 where
  pub kind : ℕ
  pub number : ℕ
  pub bytes : List ℕ

-- kind 0 is a table record, by its number; kind 1 is a pair of order bytes, by its upper level
abbrev pub of_record : ℕ
of_record = 0

abbrev pub of_pair : ℕ
of_pair = 1

-- an entry in sixteen bytes: a zero, the kind, the number in two bytes, the eight old bytes, and zeros
abbrev pub packed : Entry → List ℕ
packed e = 0 ∷ e.kind ∷ e.number % 256 ∷ e.number / 256 ∷ (e.bytes ++ (0 ∷ 0 ∷ 0 ∷ 0 ∷ []))

abbrev pub kind_at : List ℕ → ℕ → ℕ
kind_at log k = get_or log (entry_size * k + 1) 0

abbrev pub number_at : List ℕ → ℕ → ℕ
number_at log k = pair_at log (entry_size * k + 2)

-- the eight bytes from an index on
abbrev pub eight : List ℕ → ℕ → List ℕ
eight l at =
    get_or l at 0 ∷ get_or l (at + 1) 0 ∷ get_or l (at + 2) 0 ∷ get_or l (at + 3) 0
    ∷ get_or l (at + 4) 0 ∷ get_or l (at + 5) 0 ∷ get_or l (at + 6) 0 ∷ get_or l (at + 7) 0 ∷ []

-- entry k of a log
unfoldable pub entry_at : List ℕ → ℕ → Entry
entry_at log k = record { kind = kind_at log k; number = number_at log k; bytes = eight log (entry_size * k + 4) }

-- ---- the seal, which is the last record

abbrev pub seal_at : List ℕ → ℕ
seal_at log = length log - entry_size

-- byte 0 of the seal while a swap is being made: A5 hexadecimal
abbrev pub seal_mark : ℕ
seal_mark = 165

abbrev pub is_sealed : List ℕ → Bool
is_sealed log = eqb (get_or log (seal_at log) 0) seal_mark

-- bytes 2 and 3 of the seal: the number of entries
abbrev pub seal_count : List ℕ → ℕ
seal_count log = pair_at log (seal_at log + 2)

-- the bytes of the seal behind its byte 0
abbrev pub seal_bytes : ℕ → List ℕ
seal_bytes n = 0 ∷ n % 256 ∷ n / 256 ∷ replicate 12 0

-- the entries that the seal counts; a log that isn't sealed is empty
abbrev pub logged : List ℕ → List Entry
logged log = tabulate (seal_count log) (entry_at log)

abbrev pub counted : List ℕ → ℕ
counted log = cond (is_sealed log) (seal_count log) 0

-- ---- what a swap changes: u is the table after it, k the upper one of its levels

abbrev pub unlike : List ℕ → List ℕ → ℕ → Bool
unlike t u i = not (eqb (get_or t i 0) (get_or u i 0))

-- record i has another byte in u
unfoldable pub changed : List ℕ → List ℕ → ℕ → Bool
changed t u i =
    unlike t u (record_size * i) || unlike t u (record_size * i + 1) || unlike t u (record_size * i + 2) || unlike t u (record_size * i + 3)
    || unlike t u (record_size * i + 4) || unlike t u (record_size * i + 5) || unlike t u (record_size * i + 6) || unlike t u (record_size * i + 7)

-- the numbers of such records, rising
abbrev pub changes : List ℕ → List ℕ → List ℕ
changes t u = which (changed t u) (records t)

-- entries of the records with these numbers, and then of the order pair, with the bytes that a table and an order have there
abbrev pub record_entry : List ℕ → ℕ → Entry
record_entry t i = record { kind = of_record; number = i; bytes = eight t (record_size * i) }

abbrev pub pair_entry : List ℕ → ℕ → Entry
pair_entry o k = record { kind = of_pair; number = k; bytes = get_or o k 0 ∷ get_or o (k + 1) 0 ∷ 0 ∷ 0 ∷ 0 ∷ 0 ∷ 0 ∷ 0 ∷ [] }

unfoldable pub entries_of : List ℕ → ℕ → List ℕ → List ℕ → List Entry
entries_of numbers k t o = map (record_entry t) numbers ++ (pair_entry o k ∷ [])

-- the old bytes, which are logged, and the new ones, which are put
abbrev pub old_entries : State → List ℕ → ℕ → List Entry
old_entries s u k = entries_of (changes s.table u) k s.table s.order

abbrev pub new_entries : State → List ℕ → ℕ → List Entry
new_entries s u k = entries_of (changes s.table u) k u (exchange s.order k)

-- the entries that a swap needs, and those that a log holds besides its seal
unfoldable pub entries_needed : List ℕ → List ℕ → ℕ
entries_needed t u = length (changes t u) + 1

abbrev pub entries_held : List ℕ → ℕ
entries_held log = log_records log - 1

-- ---- the stores

-- the bytes of an entry, to their place in the table or the order
unfoldable pub entry_stores : Entry → List Store
entry_stores e =
    cond (eqb e.kind of_record) (into in_table (run (record_size * e.number) e.bytes)) (into in_order (run e.number (take 2 e.bytes)))

unfoldable pub putting : List Entry → List Store
putting es = each entry_stores es

-- the entries, to the front of the log
unfoldable pub logging : List Entry → List Store
logging es = into in_log (run 0 (each packed es))

-- the seal's other bytes, and then its byte 0
unfoldable pub sealing : List ℕ → ℕ → List Store
sealing log n = into in_log (run (seal_at log + 1) (seal_bytes n) ++ (poke (seal_at log) seal_mark ∷ []))

abbrev pub clearing : List ℕ → Store
clearing log = store in_log (seal_at log) 0

-- a swap: log, seal, put, clear
unfoldable pub swap_stores : State → List ℕ → ℕ → List Store
swap_stores s u k =
    (logging (old_entries s u k) ++ sealing s.log (entries_needed s.table u)) ++ (putting (new_entries s u k) ++ (clearing s.log ∷ []))

-- a recovery: the old bytes are put back, first entry first, and then the seal is cleared; nothing where the log is empty
unfoldable pub recovery_stores : List ℕ → List Store
recovery_stores log = cond (is_sealed log) (putting (logged log) ++ (clearing log ∷ [])) []

-- a recovery, whole; and a swap and a recovery that are cut after f stores
abbrev pub recovered : State → State
recovered s = puts (recovery_stores s.log) s

abbrev pub swap_cut : ℕ → State → List ℕ → ℕ → State
swap_cut f s u k = puts (take f (swap_stores s u k)) s

abbrev pub recovery_cut : ℕ → State → State
recovery_cut f s = puts (take f (recovery_stores s.log)) s
