-- Lists of the children of records: each with a variable is a record.
use Rattle.std.specs.Prelude.{ℕ, ◌<◌, List, [], ◌∷◌, ◌++◌, ◌≡◌, length, get_or, map}
use Rattle.std.proofs.lemmas.List.{get_or-map, length-map, map-append}
use Rattle.diagrams.specs.Node.{Node, free, node}
use Rattle.swap_records.specs.declared.children.Children.{Children}

abbrev pub children : ℕ → ℕ → Children
children low high = record { low = low; high = high }

-- entry k of a list
abbrev pub children_at : List Children → ℕ → Children
children_at list k = get_or list k (children 0 0)

-- the record of the variable v
abbrev pub with_variable : ℕ → Children → Node
with_variable v c = node v c.low c.high

-- those of a list
unfoldable pub nodes_of : ℕ → List Children → List Node
nodes_of v list = map (with_variable v) list

pub length_nodes : (v : ℕ) (list : List Children) → length (nodes_of v list) ≡ length list
unfolding nodes_of
length_nodes v list = length-map list (with_variable v)

pub nodes_at : (v : ℕ) (list : List Children) (j : ℕ) → j < length list → get_or (nodes_of v list) j free ≡ with_variable v (children_at list j)
unfolding nodes_of
nodes_at v list j h = get_or-map (with_variable v) list j (children 0 0) free h

-- one more
pub nodes_more : (v : ℕ) (list : List Children) (c : Children) → nodes_of v (list ++ (c ∷ [])) ≡ nodes_of v list ++ (with_variable v c ∷ [])
unfolding nodes_of
nodes_more v list c = map-append (with_variable v) list (c ∷ [])
