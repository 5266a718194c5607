-- Demand 2: exactly Bryant's diagrams are accepted. A swap that is made gives an accepted table under the exchanged order, keeps every root's
-- reference and, for every combination of inputs, its value, and frees exactly what nothing names any more. What Read answers is the same before and
-- after a swap, and before and after a run.
use Rattle.std.specs.Prelude.{ℕ, ◌+◌, ◌<◌, Bool, true, List, ◌≡◌, length, Ok}
use Rattle.std.proofs.Common.{ap, sym, ◌∙◌}
use Rattle.diagrams.specs.Layout.{records, root_count, root_at, variable_at, is_free}
use Rattle.diagrams.specs.Lookup.{lookup}
use Rattle.diagrams.specs.Value.{value}
use Rattle.orders.specs.Exchange.{exchange}
use Rattle.checks.specs.Check.{used, check_of}
use Rattle.checks.specs.Usable.{Usable}
use Rattle.checks.proofs.Theorems as check
use Rattle.check_names.specs.Names.{NamedByRoot, NamedByRecord}
use Rattle.lists.specs.Says.{Says}
use Rattle.reading.specs.Read.{read_of}
use Rattle.swap_rules.specs.Swap.{x_at, y_at, crosses}
use Rattle.swap_rules.specs.Theorem.{Cofactors}
use Rattle.swap_preparing.specs.Table.{needed_in, dying_in}
use Rattle.undo.specs.Stores.{State}
use Rattle.undo.specs.Calls.{Ended}
use Rattle.swaps.specs.Outcome.{SwapAnswer, swap_of}
use Rattle.swaps.proofs.Entry as swap
use Rattle.swap_ways.specs.declared.Way.TheVariants as way
use Rattle.runs.specs.OneSwap.{plain_swap}
use Rattle.runs.specs.Run.{run_of}
use Rattle.demands.specs.Exactly.{Exactly}
use Rattle.demands.specs.Moved.{moved_same, swap_moved, run_moved}
use Rattle.demands.specs.SameRead.{read_same}

module _ (t r o : List ℕ) where
  -- accepted, with c used records, exactly for a table that can be used and has so many. `Usable`: right sizes, an order that is a permutation, zeros
  -- where nothing is told, and a diagram in Bryant's sense
  pub accepted : (c : ℕ) → Exactly (check_of t r o ≡ Ok c) (Usable t r o × (c ≡ used t))
  accepted c = record { wherever = λ w. check.accepts t r o w.0 ∙ ap Ok (sym w.1); only = check.accepts_only t r o c }

-- ---- a swap that is made

module _ (s : State) (r : List ℕ) where
  abbrev t : List ℕ
  t = s.table

  abbrev o : List ℕ
  o = s.order

  module _ (k : ℕ) (made : (swap_of s r k).answer ≡ Ok way.Clear) where
    abbrev t' : List ℕ
    t' = (swap_of s r k).state.table

    abbrev o' : List ℕ
    o' = (swap_of s r k).state.order

    abbrev x : ℕ
    x = x_at o k

    abbrev y : ℕ
    y = y_at o k

    -- the two order bytes are exchanged
    pub order_exchanged : o' ≡ exchange o k
    order_exchanged = ap (λ (w : Ended SwapAnswer). w.state.order) (swap.made_is s r k made)

    -- the table is accepted again, under the exchanged order
    pub accepted_again : check_of t' r o' ≡ Ok (used t')
    accepted_again = check.accepts t' r o' (swap.made_usable s r k made)

    -- every root (the roots are lent for reading only) keeps its value for every combination of inputs
    pub values_kept : (inputs : ℕ → Bool) (position : ℕ) → position < root_count r
        → value (lookup t') inputs (length o) (root_at r position) ≡ value (lookup t) inputs (length o) (root_at r position)
    values_kept = swap.made_root_value s r k made

    -- a crossing record keeps its function, and its children afterwards are its cofactors by y
    pub cofactors : (q : ℕ) → crosses (lookup t) x y q ≡ true → Cofactors (lookup t) (lookup t') (length o) x y q
    cofactors = swap.made_cofactors s r k made

    -- a y record from before is free afterwards exactly where no root and, afterwards, no used record names it
    pub freed_exactly : (i : ℕ) → i < records t → variable_at t i ≡ y
        → Says (is_free t' i) ((NamedByRoot r (i + 2) → ⊥) × (NamedByRecord t' (i + 2) → ⊥))
    freed_exactly = swap.made_frees s r k made

    -- used records: those before, plus new, less dying
    pub used_after : used t' + dying_in t r x y ≡ used t + needed_in t x y
    used_after = swap.made_used s r k made

  -- ---- Read, before and after

  -- any swap, made or not, of any bytes
  pub swap_reads : (k position : ℕ) (inputs : List ℕ)
      → read_of (swap_of s r k).state.table r (swap_of s r k).state.order position inputs ≡ read_of t r o position inputs
  swap_reads k position inputs = moved_same (λ t' o'. read_of t' r o' position inputs) (λ a. read_same a position inputs) (swap_moved s r k)

  -- any run, by the plan with any number, of any bytes
  pub run_reads : (plan : ℕ) (g : List ℕ) (budget position : ℕ) (inputs : List ℕ)
      → read_of (run_of plain_swap plan s r g budget).state.table r (run_of plain_swap plan s r g budget).state.order position inputs
      ≡ read_of t r o position inputs
  run_reads plan g budget position inputs =
      moved_same (λ t' o'. read_of t' r o' position inputs) (λ a. read_same a position inputs) (run_moved plan s r g budget)
