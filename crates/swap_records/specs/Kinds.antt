-- What a record is to a swap of the levels of x and y, by its number.
use Rattle.std.specs.Prelude.{ℕ, ◌<◌, Bool, true, false, cond, not, ◌&&◌, List, ◌≡◌, refl, eqb}
use Rattle.std.proofs.Common.{ap, sym, ◌∙◌}
use Rattle.lists.specs.Truth.{and_left}
use Rattle.diagrams.specs.Layout.{records, variable_at, low_at, high_at, is_free, is_used}
use Rattle.diagrams.specs.Node.{free, node, pick, at, ref, look}
use Rattle.diagrams.specs.Decode.{node_at, decode}
use Rattle.diagrams.specs.Lookup.{lookup, at_decode}
use Rattle.swap_rules.specs.Record.{is_free_node, is_of}
use Rattle.swap_rules.specs.Swap.{crosses}

-- ---- the records of this swap: of the variable v; of x, those that cross and those that stand

abbrev pub of_at : List ℕ → ℕ → ℕ → Bool
of_at t v i = is_of v (lookup t (ref i))

abbrev pub crosses_at : List ℕ → ℕ → ℕ → ℕ → Bool
crosses_at t x y i = crosses (lookup t) x y (ref i)

unfoldable pub stands_at : List ℕ → ℕ → ℕ → ℕ → Bool
stands_at t x y i = of_at t x i && not (crosses_at t x y i)

-- the child of record i, on the low side (false) or the high one (true)
abbrev pub child_at : List ℕ → ℕ → Bool → ℕ
child_at t i side = pick side (low_at t i) (high_at t i)

pub of_is : (t : List ℕ) (v i : ℕ) → i < records t → of_at t v i ≡ (is_used t i && eqb (variable_at t i) v)
unfolding look node_at is_of
of_is t v i h = rw (at_decode t i h) (go (is_free t i))
  where
    go : (u : Bool) → is_of v (cond u free (node (variable_at t i) (low_at t i) (high_at t i))) ≡ (not u && eqb (variable_at t i) v)
    go true = refl
    go false = refl

-- a record of v is used
pub used_of : (t : List ℕ) (v i : ℕ) → i < records t → of_at t v i ≡ true → is_used t i ≡ true
used_of t v i h e = and_left (is_used t i) _ (sym (of_is t v i h) ∙ e)

-- record i is free, in the bytes and in the records
pub free_is : (t : List ℕ) (i : ℕ) → i < records t → is_free_node (at (decode t) i) ≡ is_free t i
unfolding node_at is_free_node
free_is t i b = ap is_free_node (at_decode t i b) ∙ go (is_free t i)
  where
    go : (u : Bool) → is_free_node (cond u free (node (variable_at t i) (low_at t i) (high_at t i))) ≡ u
    go true = refl
    go false = refl
