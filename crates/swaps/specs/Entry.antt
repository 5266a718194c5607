-- What Swap answers, and when: made where needed is not above free plus dying and the log holds the entries, no room where it is above, log short where only
-- the log is in the way, refused where a check fails first.
use Rattle.std.specs.Prelude.{ℕ, set}
use mathlib.Core.List.{List}
use Rattle.orders.specs.Exchange.{exchange}
use Rattle.undo.specs.Stores.{State, state}
use Rattle.undo.specs.Log.{seal_at, old_entries}
use Rattle.undo.specs.Sealed.{sealed_log}
use Rattle.swap_ways.specs.Ways.{table_after}
use Rattle.swaps.specs.Work.{Swappable}

-- ---- Swap of a table that is accepted, at two levels of its order, with an empty log

abbrev pub AbleOf : State → List ℕ → ℕ → Type 0
AbleOf s r k = Swappable s.table r s.order s.log k

-- the log after a swap: the entries, then what stood there, then the seal with its byte 0 cleared
abbrev pub log_after : State → List ℕ → ℕ → List ℕ
log_after s r k = set (sealed_log s.log (old_entries s (table_after s.table r s.order k) k)) (seal_at s.log) 0

-- the three buffers after a swap
abbrev pub state_after : State → List ℕ → ℕ → State
state_after s r k = state (table_after s.table r s.order k) (exchange s.order k) (log_after s r k)
