-- How the code of a swap goes: the swap of the three buffers, and the parts of the entry.
use Rattle.std.specs.Prelude.{ℕ, ◌+◌, ◌≤◌, ◌<◌, List, ◌≡◌, length}
use Rattle.orders.specs.Permutation.{ceiling}
use Rattle.check_sizes.specs.Sizes.{TableSizes}
use Rattle.checks.specs.Usable.{Usable}
use Rattle.undo.specs.Stores.{State}
use Rattle.undo.specs.Wrote.{Spent}
use Rattle.check_log.specs.BadLog.{LogSizes}
use Rattle.check_log.specs.Open.{Open}
use Rattle.swap_ways.specs.declared.Way.{Way}
use Rattle.swaps.specs.Outcome.{swap_way, swap_after}

-- ---- a swap of the three buffers

-- what it asks for
pub record Storable (t r o log : List ℕ) (k : ℕ) : Type 0 where
  pub sized : TableSizes t r
  pub level : k + 1 < length o
  pub few_levels : length o ≤ ceiling
  pub log_sized : LogSizes log

-- what stood in the way, and the stores, cut after f of them: so much fuel is left
pub record Swapped (f : ℕ) (s : State) (r : List ℕ) (k : ℕ) (w : Way) (s' : State) (left : ℕ) : Type 0 where
  pub answer : w ≡ swap_way s r k
  pub spent : Spent f (swap_after s r k w).stores s s' left

-- ---- the entry

-- a table that is accepted, two levels of its order, and an empty log
pub record Swappable (t r o log : List ℕ) (k : ℕ) : Type 0 where
  pub usable : Usable t r o
  pub level : k + 1 < length o
  pub log_open : Open log
