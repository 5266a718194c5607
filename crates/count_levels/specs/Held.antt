-- The work area of a count: a count and a share for each record, made right from the lowest level up.
use Rattle.std.specs.Prelude.{ℕ, zero, suc, ◌+◌, ◌≤◌, ◌<◌, ◌^◌, List, ◌≡◌, length, get_or, Float}
use Rattle.std.specs.Float.{nan}
use Rattle.diagrams.specs.Layout.{most_records, records, variable_at}
use Rattle.diagrams.specs.Decode.{Used}
use Rattle.diagrams.specs.Lookup.{lookup}
use Rattle.diagrams.specs.Node.{node, ref}
use Rattle.orders.specs.Permutation.{level_of}
use Rattle.count_shares.specs.Share.{share, none, all}
use Rattle.count_levels.specs.Mean.{trips_by, Countable}
use Rattle.count_levels.specs.declared.Trips.{Trips}

-- a used record of a table whose combinations can be counted, and a variable of its order
abbrev pub CountableRecord : List ℕ → List ℕ → ℕ → Type 0
CountableRecord t o i = Countable t o × (i < records t) × Used t i

abbrev pub CountableVariable : List ℕ → List ℕ → ℕ → Type 0
CountableVariable t o v = Countable t o × (v < length o)

-- none, and all of the combinations of n inputs
abbrev pub no_trips : Trips
no_trips = record { count = 0; share = none }

abbrev pub all_trips : ℕ → Trips
all_trips n = record { count = 2 ^ n; share = all }

-- past the work area
abbrev pub outside : Trips
outside = record { count = 0; share = nan }

-- what is held for the reference x: of false none, of true all, of a record what the list has
unfoldable pub held : ℕ → List Trips → ℕ → Trips
held n trips zero = no_trips
held n trips (suc zero) = all_trips n
held n trips (suc (suc i)) = get_or trips i outside

abbrev pub held_count : ℕ → List Trips → ℕ → ℕ
held_count n trips x = (held n trips x).count

abbrev pub held_share : ℕ → List Trips → ℕ → Float
held_share n trips x = (held n trips x).share

-- they are right for x
abbrev pub RightCount : List ℕ → ℕ → List Trips → ℕ → Type 0
RightCount t n trips x = held_count n trips x ≡ trips_by t n x

abbrev pub RightShare : List ℕ → ℕ → List Trips → ℕ → Type 0
RightShare t n trips x = held_share n trips x ≡ share (trips_by t n x) n

pub record Right (t : List ℕ) (n : ℕ) (trips : List Trips) (x : ℕ) : Type 0 where
  pub count : RightCount t n trips x
  pub share : RightShare t n trips x

-- a place for each record
abbrev pub Whole : List Trips → Type 0
Whole trips = length trips ≡ most_records

-- right for every record from level k down
pub record RightFrom (t o : List ℕ) (k : ℕ) (trips : List Trips) : Type 0 where
  pub whole : Whole trips
  pub from : (x v l h : ℕ) → lookup t x ≡ node v l h → k ≤ level_of o v → Right t (length o) trips x

-- right below the level of v, and for the records of v before record i
pub record Settled (t o : List ℕ) (v i : ℕ) (trips : List Trips) : Type 0 where
  pub below : RightFrom t o (level_of o v + 1) trips
  pub here : (j : ℕ) → j < i → variable_at t j ≡ v → Right t (length o) trips (ref j)
