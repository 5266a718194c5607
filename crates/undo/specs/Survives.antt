-- A swap that is cut somewhere, recoveries that are cut too, and a last one that isn't: table and order are those of before the swap,
-- or those of after it where its clearing store was made.
use Rattle.std.specs.Prelude.{ℕ, ◌+◌, ◌*◌, ◌≤◌, ◌<◌, ◌≡◌}
use mathlib.Core.List.{List, [], ◌∷◌}
use Rattle.std.proofs.Math.ListN.{length, get_or}
use Rattle.diagrams.specs.Layout.{record_size, records}
use Rattle.undo.specs.Stores.{State}
use Rattle.undo.specs.Log.{seal_at}
use Rattle.undo.specs.Log.{entries_needed, entries_held}
use Rattle.undo.specs.Log.{recovery_cut}

-- a table and an image of whole records, two levels, and a log that is empty and long enough
pub record Ready (s : State) (image : List ℕ) (k : ℕ) : Type 0 where
  pub long : length s.table ≡ length image
  pub whole : length s.table ≡ record_size * records s.table
  pub level : k + 1 < length s.order
  pub room : entries_needed s.table image ≤ entries_held s.log
  pub empty : get_or s.log (seal_at s.log) 0 ≡ 0

-- this table and this order, and an empty log
pub record Quiet (t o : List ℕ) (s : State) : Type 0 where
  pub table_is : s.table ≡ t
  pub order_is : s.order ≡ o
  pub empty : get_or s.log (seal_at s.log) 0 ≡ 0

-- recoveries that are cut, one after the other
unfoldable pub recoveries : List ℕ → State → State
recoveries [] s = s
recoveries (f ∷ fs) s = recoveries fs (recovery_cut f s)
