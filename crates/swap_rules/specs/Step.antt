-- What a swap does, said reference by reference: no list of records, no searching, no record numbers.
-- `L r` is the record that the reference r names before the swap, `L' r` the one afterwards; `X a b` and `dies` are as in Swap.
use Rattle.std.specs.Prelude.{ℕ, ◌+◌, ◌<◌, Bool, ◌≢◌, ◌⊎◌, ◌≡◌, refl, eqb}
use Rattle.std.proofs.Math.Bool.{true, false}
use Rattle.std.proofs.Common.{inl, inr, sym, ◌∙◌}
use borrow.Author.Tests.{eq-eqb}
use Rattle.diagrams.specs.Node.{Node, free, node}
use Rattle.diagrams.specs.Diagram.{Named, Diagram}
use Rattle.diagrams.specs.Levels.{Ends}
use Rattle.swap_rules.specs.Record.{UsedOf}
use Rattle.swap_rules.specs.Swap.{grandchild, crosses}

-- index' is index with the levels k of x and k + 1 of y exchanged
pub record Levels (index index' : ℕ → ℕ) (n k x y : ℕ) : Type 0 where
  pub pair_inside : k + 1 < n
  pub index_x : index x ≡ k
  pub index_y : index y ≡ k + 1
  pub index'_x : index' x ≡ k + 1
  pub index'_y : index' y ≡ k
  pub others : (v : ℕ) → v ≢ x → v ≢ y → index' v ≡ index v
  pub injective : (v w : ℕ) → index v < n → index v ≡ index w → v ≡ w

-- the reference, low or high, that a crossing record x (l, h) gets: X(f00, f10), or X(f01, f11)
abbrev pub Side : (ℕ → Node) → ℕ → (ℕ → ℕ → ℕ) → Bool → ℕ → ℕ → ℕ
Side L y X side l h = X (grandchild L y side l) (grandchild L y side h)

-- some crossing record asks for X(a, b): on its low side a and b are its f00 and f10, on its high side its f01 and f11
pub record Asked (L : ℕ → Node) (x y a b : ℕ) : Type 0 where
  pub asker : ℕ
  pub low : ℕ
  pub high : ℕ
  pub is : L asker ≡ node x low high
  pub cross : crosses L x y asker ≡ true
  pub side : Bool
  pub low_is : a ≡ grandchild L y side low
  pub high_is : b ≡ grandchild L y side high

-- no record to lose: it was free, or it dies
abbrev pub Open : (ℕ → Node) → (ℕ → Bool) → ℕ → Type 0
Open L dies r = (L r ≡ free) ⊎ (dies r ≡ true)

-- the four things that can become of a record
pub data Kind (Terminal : ℕ → Type 0) (L L' : ℕ → Node) (x y : ℕ) (X : ℕ → ℕ → ℕ) (dies : ℕ → Bool) (r : ℕ) : Type 0 where
  kept : L' r ≡ L r → crosses L x y r ≡ false → dies r ≡ false → Kind Terminal L L' x y X dies r
  crossed : (l h : ℕ) → L r ≡ node x l h → crosses L x y r ≡ true
      → L' r ≡ node y (Side L y X false l h) (Side L y X true l h) → Kind Terminal L L' x y X dies r
  -- made in this swap, for one that asks for it, where no record that stays is this one
  fresh : (a b : ℕ) → (Terminal r → ⊥) → Open L dies r → L' r ≡ node x a b → Asked L x y a b → a ≢ b
      → ((q : ℕ) → L q ≡ node x a b → crosses L x y q ≡ false → ⊥) → Kind Terminal L L' x y X dies r
  gone : dies r ≡ true → L' r ≡ free → Kind Terminal L L' x y X dies r

-- X(a, b) serves for x (a, b): it is a where a and b are one, and otherwise names the record x (a, b)
abbrev pub Serves : (ℕ → Node) → ℕ → (ℕ → ℕ → ℕ) → ℕ → ℕ → Type 0
Serves L' x X a b = ((a ≡ b) × (X a b ≡ a)) ⊎ ((a ≢ b) × (L' (X a b) ≡ node x a b))

pub record Step (Terminal : ℕ → Type 0) (L L' : ℕ → Node) (Root : ℕ → Type 0) (x y : ℕ) (X : ℕ → ℕ → ℕ) (dies : ℕ → Bool) : Type 0 where
  pub kind : (r : ℕ) → Kind Terminal L L' x y X dies r
  pub serves : (a b : ℕ) → Asked L x y a b → Serves L' x X a b
  -- a new record is made once
  pub fresh_single : (r s a b : ℕ) → L' r ≡ node x a b → L' s ≡ node x a b → Open L dies r → Open L dies s → r ≡ s
  -- what dies is a y record that no root and no record that stays names; every other y record is named by one of these
  pub dies_y : (r : ℕ) → dies r ≡ true → UsedOf y (L r)
  pub dies_root : (r : ℕ) → dies r ≡ true → Root r → ⊥
  pub dies_named : (r : ℕ) (m : Named L r) → dies r ≡ true → crosses L x y m.parent ≡ false → ⊥
  pub lives : (r : ℕ) → dies r ≡ false → UsedOf y (L r) → Root r ⊎ ((m : Named L r) × (crosses L x y m.parent ≡ false))

-- a diagram, and a swap of it
pub record OneSwap (Terminal : ℕ → Type 0) (L L' : ℕ → Node) (Root : ℕ → Type 0) (index index' : ℕ → ℕ) (n k x y : ℕ)
    (X : ℕ → ℕ → ℕ) (dies : ℕ → Bool) : Type 0 where
  pub ends : Ends Terminal L
  pub before : Diagram Terminal L Root index n
  pub levels : Levels index index' n k x y
  pub step : Step Terminal L L' Root x y X dies
