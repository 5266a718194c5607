-- The buffers of the files, and what came of reading those of the store and its target.
use Rattle.std.specs.Prelude.{ℕ, ◌+◌, ◌*◌, ◌≤◌, List, [], ◌∷◌, ◌≡◌, length, Result, IfOk}
use Rattle.diagrams.specs.Layout.{record_size, root_size, most_records, most_roots}
use Rattle.orders.specs.Permutation.{ceiling}
use Rattle.labels.specs.Label.{label_size, most_labels}
use Rattle.files.specs.declared.Unreadable.{Unreadable}
use Rattle.folder.specs.declared.Sizes.{Sizes}

-- the buffers of the store and its target have one byte more than each file may have: a file over its limit fills it, and by its length alone is refusal 1
pub record Buffers (t r o g : List ℕ) : Type 0 where
  pub table : length t ≡ record_size * most_records + 1
  pub roots : length r ≡ root_size * most_roots + 1
  pub order : length o ≡ ceiling + 1
  pub target : length g ≡ ceiling + 1

-- the buffer of trip.pln, before it is read: one byte more than the file may have, and the number of the plan where there is no file
abbrev pub plan_buffer : List ℕ
plan_buffer = 0 ∷ 0 ∷ []

-- that of trip.lbs or trip.lbf: one byte more than the file may have; a file over its limit fills it, and has no right length
pub record LabelBuffer (l : List ℕ) : Type 0 where
  pub long : length l ≡ label_size * most_labels + 1

-- so many bytes stand in each of the four
pub record Filled (sizes : Sizes) (t r o g : List ℕ) : Type 0 where
  pub table_in : sizes.table ≤ length t
  pub roots_in : sizes.roots ≤ length r
  pub order_in : sizes.order ≤ length o
  pub target_in : sizes.target ≤ length g

abbrev pub AllWithin : Result Sizes Unreadable → List ℕ → List ℕ → List ℕ → List ℕ → Type 0
AllWithin read t r o g = IfOk read (λ sizes. Filled sizes t r o g)
