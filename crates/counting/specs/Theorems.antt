-- What Count answers, and when.
use Rattle.std.specs.Prelude.{ℕ, ◌≤◌, ◌<◌, Bool, false, List, ◌≡◌, Float, length, Ok, Err}
use Rattle.diagrams.specs.Layout.{root_count}
use Rattle.count_shares.specs.Share.{most_counted, share}
use Rattle.checks.specs.Usable.{Usable}
use Rattle.reading.specs.Read.{ReadAnswer}
use Rattle.counting.specs.Count.{trips}

-- ---- Count tells a number exactly for a table that the relay can use, of no more inputs than are counted, and a root that is there

pub record Counts (t r o : List ℕ) (position c : ℕ) (s : Float) : Type 0 where
  pub usable : Usable t r o
  pub few_inputs : length o ≤ most_counted
  pub there : position < root_count r
  -- how many combinations
  pub count : c ≡ trips t r o position
  -- and their share
  pub share : s ≡ share c (length o)

-- does Read answer 1?
abbrev pub answers_one : ReadAnswer → Bool
answers_one (Ok b) = b
answers_one (Err w) = false
