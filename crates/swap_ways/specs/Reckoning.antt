-- How the code finds what stands in the way of a swap: the two variables, then room and log.
use Rattle.std.specs.Prelude.{ℕ, ◌<◌, true, cond, List, ◌≡◌, leb}
use Rattle.swap_rules.specs.Swap.{x_at, y_at}
use Rattle.swap_records.specs.declared.Pair.{Pair}
use Rattle.swap_reckoning.specs.declared.Counts.{Counts}
use Rattle.swap_ways.specs.Ways.{lack, way_of, is_clear, table_after}
use Rattle.swap_ways.specs.declared.Way.{Way}
use Rattle.swap_ways.specs.declared.Way.TheVariants as way

-- the variables of levels k and k + 1
pub record PairAt (o : List ℕ) (k : ℕ) (p : Pair) : Type 0 where
  pub is_x : p.x.0 ≡ x_at o k
  pub is_y : p.y.0 ≡ y_at o k
  pub small_x : p.x.0 < 256
  pub small_y : p.y.0 < 256

-- no room where needed is above the slots; else what is found of the log
unfoldable pub way_by : ℕ → Counts → Way → Way
way_by k q log = cond (leb q.needed q.slots) log (way.NoRoom (lack k q.needed q.free))

-- the image is the table afterwards where nothing stands in the way
pub record Reckoned (t r o : List ℕ) (held k : ℕ) (w : Way) (image : List ℕ) : Type 0 where
  pub answer : w ≡ way_of t r o held k
  pub image_is : is_clear w ≡ true → image ≡ table_after t r o k
