-- Check 9: record i is used, and no root and no used record names it.
-- docs/RULES.md, 2.2.
use Rattle.std.specs.Prelude.{ℕ, ◌+◌, Bool, not, ◌&&◌, ◌||◌, List, ◌⊎◌, ◌≡◌}
use Rattle.lists.specs.First.{any}
use Rattle.lists.specs.Says.{Says, Some, says}
use Rattle.diagrams.specs.Layout.{records, root_count, low_at, high_at, is_used, root_at}
use Rattle.diagrams.specs.Decode.{Used}
use Rattle.diagrams.specs.Noting.{root_names, record_names}

unfoldable pub idle : List ℕ → List ℕ → ℕ → Bool
idle t r i = is_used t i && not (any (root_names r (i + 2)) (root_count r) || any (record_names t (i + 2)) (records t))

-- ---- what it says

abbrev pub NamedByRoot : List ℕ → ℕ → Type 0
NamedByRoot r x = Some (λ k. root_at r k ≡ x) (root_count r)

abbrev pub NamedByRecord : List ℕ → ℕ → Type 0
NamedByRecord t x = Some (λ j. Used t j × ((low_at t j ≡ x) ⊎ (high_at t j ≡ x))) (records t)

pub named_says : (t r : List ℕ) (x : ℕ)
    → Says (any (root_names r x) (root_count r) || any (record_names t x) (records t)) (NamedByRoot r x ⊎ NamedByRecord t x)
unfolding root_names record_names
named_says t r x = search says depth 12

pub idle_says : (t r : List ℕ) (i : ℕ) → Says (idle t r i) (Used t i × (NamedByRoot r (i + 2) ⊎ NamedByRecord t (i + 2) → ⊥))
unfolding idle
idle_says t r i = search (named_says, says) depth 12
