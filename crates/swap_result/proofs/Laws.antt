-- The records of the image: one law for each way out of a function, over plain variables.
use Prim.Native.Nat.{ℕ}
use mathlib.Core.List.{List}
use mathlib.Core.Path.{◌≡◌}
use native.Mathlib.Omega.{arith}
use lib.ListN.{get_or}
use Rattle.lists.specs.Fold.{Writes, writes}
use Rattle.diagrams.specs.Layout.{InTable}
use Rattle.diagrams.specs.Node.{free}
use Rattle.diagrams.specs.Decode.{node_at, eight}
use Rattle.diagrams.specs.Store.{meant, stored_at}
use Rattle.diagrams.specs.declared.Record.{Record}
use Rattle.swap_records.specs.Listed.{entries}
use Rattle.swap_records.specs.Children.{children_at, with_variable}
use Rattle.swap_records.specs.declared.children.Children.{Children}
use Rattle.swap_result.specs.Image.{stayed, freed, placed}

-- ---- the loops that store records

pub storing_inside : {step : List ℕ → ℕ → List ℕ} {start : List ℕ} {m k : ℕ} {l : List ℕ} (i : ℕ) → Writes step start m k l → InTable start i → InTable l i
storing_inside i w h = omega (arith, w.same)

pub stays_stored : (t l : List ℕ) (i : ℕ) (f : Record) {l' : List ℕ} → meant f ≡ node_at t i → l' ≡ stored_at l i (eight (meant f)) → l' ≡ stayed t l i
unfolding stayed
stays_stored t l i f p q = rw (← p) q

pub free_stored : (numbers l : List ℕ) (k : ℕ) {i : ℕ} {l' : List ℕ} → i ≡ get_or numbers k 0 → l' ≡ stored_at l i (eight free) → l' ≡ freed numbers l k
unfolding freed
free_stored numbers l k e q = rw (← e) q

pub record_placed : (v : ℕ) (children : List Children) (numbers l : List ℕ) (k : ℕ) (f : Record) {i : ℕ} {l' : List ℕ}
    → meant f ≡ with_variable v (children_at children k) → i ≡ get_or numbers k 0 → l' ≡ stored_at l i (eight (meant f)) → l' ≡ placed v children numbers l k
unfolding placed
record_placed v children numbers l k f p e q = rw (← p, ← e) q

pub ruleset storing = (storing_inside, stays_stored, free_stored, record_placed, writes, entries)
