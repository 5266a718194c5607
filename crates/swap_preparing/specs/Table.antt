-- A swap of the stored table t with the roots r, where x and y are the variables of the two levels: its numbers, and the table afterwards.
use Rattle.std.specs.Prelude.{ℕ, ◌+◌, Bool, List, ◌≡◌, leb}
use Rattle.diagrams.specs.Edition.{plain}
use Rattle.diagrams.specs.Layout.{records}
use Rattle.diagrams.specs.Node.{at}
use Rattle.diagrams.specs.Decode.{decode, encode}
use Rattle.diagrams.specs.Lookup.{roots_of}
use Rattle.swap_rules.proofs.Room.{fits_slots}
use Rattle.swap_rules.specs.Swap.{needed, free_count, dying_count, fits, swapped}

-- needed: how many new records the swap makes
abbrev pub needed_in : List ℕ → ℕ → ℕ → ℕ
needed_in t x y = needed plain (at (decode t)) (records t) x y

-- free: how many records are free before it
abbrev pub free_in : List ℕ → ℕ
free_in t = free_count (at (decode t)) (records t)

-- dying: how many y records neither the roots r nor a record that keeps its references names
abbrev pub dying_in : List ℕ → List ℕ → ℕ → ℕ → ℕ
dying_in t r x y = dying_count plain (at (decode t)) (records t) x y (roots_of r)

-- there is room unless more records would be used after it than the table has
abbrev pub fits_in : List ℕ → List ℕ → ℕ → ℕ → Bool
fits_in t r x y = fits plain (at (decode t)) (records t) x y (roots_of r)

-- the table afterwards, where there is room
unfoldable pub table_after : List ℕ → List ℕ → ℕ → ℕ → List ℕ
table_after t r x y = encode (swapped plain (decode t) x y (roots_of r))

-- 4.4, the other reading of room
pub fit_by_slots : (t r : List ℕ) (x y : ℕ) → fits_in t r x y ≡ leb (needed_in t x y) (free_in t + dying_in t r x y)
fit_by_slots t r x y = fits_slots plain (at (decode t)) (records t) x y (roots_of r)
