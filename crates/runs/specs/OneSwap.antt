-- What a run needs of one swap of a stored table: a few definitions over the bytes, and a few facts of them. An edition of the table gives its own;
-- `plain_swap` is that of the plain one.
use Rattle.std.specs.Prelude.{ℕ, ◌+◌, ◌≤◌, ◌<◌, Bool, true, List, ◌∷◌, ◌≡◌, length, Ok}
use Rattle.std.proofs.Common.{ap, sym, ◌∙◌}
use Rattle.diagrams.specs.Layout.{root_count, root_at}
use Rattle.diagrams.specs.Lookup.{lookup}
use Rattle.diagrams.specs.Value.{value}
use Rattle.orders.specs.Permutation.{Permutation}
use Rattle.orders.specs.Exchange.{exchange}
use Rattle.check_sizes.specs.Sizes.{bad_sizes, Sizes}
use Rattle.checks.specs.Stages.{Stage, stage_at, AllPass, also}
use Rattle.checks.specs.Check as check
use Rattle.checks.specs.Check.{order_stage, check_stages}
use Rattle.checks.specs.declared.Fault.TheVariants.{BadSizes, BadOrder}
use Rattle.checks.specs.Usable as checked
use Rattle.checks.proofs.Usable as checks_laws
use Rattle.checks.proofs.Usable.{usable_then, all_pass, passes_all}
use Rattle.undo.specs.Stores.{State}
use Rattle.undo.specs.Calls.{Call, only}
use Rattle.undo.specs.Log.{entries_needed, entries_held, swap_stores}
use Rattle.check_log.specs.Open.{Open}
use Rattle.swap_rules.specs.Swap.{x_at, y_at}
use Rattle.swap_ways.specs.Ways as ways
use Rattle.swaps.specs.Outcome as outcome
use Rattle.swap_ways.specs.Ways.{is_clear, way_clear}
use Rattle.swaps.specs.Outcome.{SwapAnswer, swap_after}
use Rattle.swaps.specs.Bytes.{length_after, swap_usable, swap_root_value}
use Rattle.swaps.specs.Work.{Swappable}
use Rattle.swaps.proofs.Entry as entry
use Rattle.swap_ways.specs.Room.{clear_fits, clear_then}
use Rattle.swaps.proofs.Entry.{call_is}
use Rattle.swap_ways.specs.declared.Way.{Way}
use Rattle.swap_ways.specs.declared.Way.TheVariants as way
use Rattle.swap_ways.specs.declared.Lack.{Lack}
use Rattle.swap_ways.specs.declared.Short.{Short}

pub record OneSwap : Type 1 where
  -- checks 4 to 9, of a table with its roots and order
  pub table_stages : List ℕ → List ℕ → List ℕ → List Stage
  -- a table that the relay can use, with its roots and order
  pub Usable : List ℕ → List ℕ → List ℕ → Type 0
  -- what stands in the way of a swap of levels k and k + 1 with a log of so many entries, the table after it, and Swap
  pub way_of : List ℕ → List ℕ → List ℕ → ℕ → ℕ → Way
  pub table_after : List ℕ → List ℕ → List ℕ → ℕ → List ℕ
  pub swap_call : State → List ℕ → ℕ → Call SwapAnswer
  -- the value of the root at a position, in a table of n variables
  pub root_value : List ℕ → List ℕ → ℕ → (ℕ → Bool) → ℕ → Bool
  -- the table can be used exactly where it passes the checks
  pub usable_if : (t r o : List ℕ) → AllPass (stage_at BadSizes 0 (bad_sizes t r o) ∷ order_stage BadOrder o ∷ table_stages t r o) → Usable t r o
  pub usable_passes : (t r o : List ℕ) → Usable t r o → AllPass (table_stages t r o)
  pub sizes : (t r o : List ℕ) → Usable t r o → Sizes t r o
  pub permutation : (t r o : List ℕ) → Usable t r o → Permutation o
  -- a swap that nothing stands in the way of leaves a table that can be used under the exchanged order, and every root's value
  pub usable_after : (t r o : List ℕ) (held k : ℕ) → Usable t r o → k + 1 < length o → is_clear (way_of t r o held k) ≡ true
      → Usable (table_after t r o k) r (exchange o k)
  pub value_after : (t r o : List ℕ) (held k : ℕ) → Usable t r o → k + 1 < length o → is_clear (way_of t r o held k) ≡ true
      → (inputs : ℕ → Bool) (position : ℕ) → position < root_count r
      → root_value (table_after t r o k) r (length o) inputs position ≡ root_value t r (length o) inputs position
  -- the table after it is as long, and the log holds the entries
  pub long_after : (t r o : List ℕ) (k : ℕ) → Usable t r o → length t ≡ length (table_after t r o k)
  pub entries_fit : (t r o : List ℕ) (held k : ℕ) → is_clear (way_of t r o held k) ≡ true → entries_needed t (table_after t r o k) ≤ held
  -- with an empty log Swap makes it, or says what stands in the way and makes no store
  pub swap_clear : (s : State) (r : List ℕ) (k : ℕ) → Usable s.table r s.order → k + 1 < length s.order → Open s.log
      → is_clear (way_of s.table r s.order (entries_held s.log) k) ≡ true
      → swap_call s r k ≡ record { answer = Ok way.Clear; stores = swap_stores s (table_after s.table r s.order k) k }
  pub swap_stuck : (s : State) (r : List ℕ) (k : ℕ) → Usable s.table r s.order → k + 1 < length s.order → Open s.log
      → (l : Lack) → way_of s.table r s.order (entries_held s.log) k ≡ way.NoRoom l → swap_call s r k ≡ only (Ok (way.NoRoom l))
  pub swap_short : (s : State) (r : List ℕ) (k : ℕ) → Usable s.table r s.order → k + 1 < length s.order → Open s.log
      → (l : Short) → way_of s.table r s.order (entries_held s.log) k ≡ way.LogShort l → swap_call s r k ≡ only (Ok (way.LogShort l))

-- ---- the plain edition

pub table_passes : (t r o : List ℕ) → AllPass (check_stages t r o) → AllPass (check.table_stages t r o)
unfolding check_stages
table_passes t r o (also h (also p rest)) = rest

pub plain_usable : (t r o : List ℕ) → AllPass (stage_at BadSizes 0 (bad_sizes t r o) ∷ order_stage BadOrder o ∷ check.table_stages t r o) → checked.Usable t r o
unfolding check_stages
plain_usable t r o p = checks_laws.usable_if t r o (passes_all t r o p)

module _ (s : State) (r : List ℕ) (k : ℕ) (u : checked.Usable s.table r s.order) (l : k + 1 < length s.order) (p : Open s.log) where
  able : Swappable s.table r s.order s.log k
  able = record { usable = u; level = l; log_open = p }

  pub plain_clear : is_clear (outcome.swap_way s r k) ≡ true
      → outcome.swap_call s r k ≡ record { answer = Ok way.Clear; stores = swap_stores s (ways.table_after s.table r s.order k) k }
  plain_clear e = call_is s r k able ∙ ap (swap_after s r k) (way_clear s.table r s.order (entries_held s.log) k e)

  pub plain_stuck : (l : Lack) → outcome.swap_way s r k ≡ way.NoRoom l → outcome.swap_call s r k ≡ only (Ok (way.NoRoom l))
  plain_stuck l e = entry.swap_stuck s r k able l e

  pub plain_short : (l : Short) → outcome.swap_way s r k ≡ way.LogShort l → outcome.swap_call s r k ≡ only (Ok (way.LogShort l))
  plain_short l e = entry.swap_short s r k able l e

pub plain_long : (t r o : List ℕ) (k : ℕ) → checked.Usable t r o → length t ≡ length (ways.table_after t r o k)
plain_long t r o k u = sym (length_after t r (x_at o k) (y_at o k) u.sizes.whole_records)

abbrev pub plain_swap : OneSwap
plain_swap = record {
  table_stages = check.table_stages;
  Usable = checked.Usable;
  way_of = ways.way_of;
  table_after = ways.table_after;
  swap_call = outcome.swap_call;
  root_value = λ t r n inputs position. value (lookup t) inputs n (root_at r position);
  usable_if = plain_usable;
  usable_passes = λ t r o u. table_passes t r o (all_pass t r o (usable_then t r o u));
  sizes = λ t r o u. u.sizes;
  permutation = λ t r o u. u.order;
  usable_after = λ t r o held k u l c. swap_usable t r o k u l (clear_fits t r o held k c);
  value_after = λ t r o held k u l c. swap_root_value t r o k u l (clear_fits t r o held k c);
  long_after = plain_long;
  entries_fit = λ t r o held k c. (clear_then t r o held k c).1;
  swap_clear = plain_clear;
  swap_stuck = plain_stuck;
  swap_short = plain_short;
}
