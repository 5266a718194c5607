-- A swap as it is prepared: what is counted, and the image of the table.
use Rattle.std.specs.Prelude.{ℕ, ◌≤◌, ◌<◌, List, ◌≡◌, leb, length, take}
use Rattle.check_sizes.specs.Sizes.{TableSizes}
use Rattle.swap_records.specs.declared.Pair.{Pair}
use Rattle.swap_reckoning.specs.declared.Counts.{Counts}
use Rattle.swap_preparing.specs.Table.{needed_in, free_in, fits_in, table_after}

-- the reckoning counts what the swap needs and what is free; and slots enough to tell whether there is room
pub record CountsOf (t r : List ℕ) (p : Pair) (q : Counts) : Type 0 where
  pub needed_is : q.needed ≡ needed_in t p.x.0 p.y.0
  pub free_is : q.free ≡ free_in t
  pub fit_is : leb q.needed q.slots ≡ fits_in t r p.x.0 p.y.0

-- what the reckoning of a swap and the filling of an image take
pub record Preparing (t r : List ℕ) (p : Pair) : Type 0 where
  pub sized : TableSizes t r
  pub small_x : p.x.0 < 256
  pub small_y : p.y.0 < 256

-- where there is room, the front of an image that is long enough is the table afterwards
pub record Prepared (t r : List ℕ) (p : Pair) (q : Counts) (image : List ℕ) : Type 0 where
  pub counts : CountsOf t r p q
  pub table : q.needed ≤ q.slots → length t ≤ length image → take (length t) image ≡ table_after t r p.x.0 p.y.0
