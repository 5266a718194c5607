-- How many stores a swap and a recovery make, so how much fuel is enough.
use Rattle.std.specs.Prelude.{ℕ, ◌*◌, Bool, cond, List, take}
use Rattle.diagrams.specs.Layout.{record_size}
use Rattle.undo.specs.Stores.{in_table, in_order, Store, run, into}
use Rattle.undo.specs.Log.{most_log_records}

-- fuel for more stores than a swap or a recovery makes
abbrev pub enough : ℕ
enough = 24 * most_log_records

-- ---- a recovery

-- the stores of an entry of either kind
abbrev pub stores_of : Bool → ℕ → List ℕ → List Store
stores_of b number bytes = cond b (into in_table (run (record_size * number) bytes)) (into in_order (run number (take 2 bytes)))
