-- The numbers of an answer of Swap are small: a swap needs at most two records for each one, no more are free than there are, and no log holds more entries
-- than it has records.
use Prim.Native.Nat.{ℕ, ◌+◌, ◌*◌, ◌≤◌, ◌<◌}
use Rattle.std.specs.Prelude.{Bool, true, false, cond, ◌≡◌, leb, length, Ok, Err}
use mathlib.Core.List.{List, [], ◌∷◌, append_assoc}
use Rattle.std.proofs.Math.Path.{refl}
use native.Mathlib.Omega.{arith}
use Rattle.lists.specs.Below.{Below}
use Rattle.lists.specs.Count.{count_small}
use Rattle.lists.specs.Keep.{keep, keep_short}
use Rattle.lists.specs.Which.{which, which_length}
use Rattle.lists.specs.Each.{each_length}
use Rattle.lists.specs.Once.{once_short}
use Rattle.diagrams.specs.Edition.{plain}
use Rattle.diagrams.specs.Layout.{record_size, most_records, records}
use Rattle.diagrams.specs.Node.{Node, at}
use Rattle.diagrams.specs.Decode.{decode}
use Rattle.check_sizes.specs.Sizes.{sizes_if}
use Rattle.checks.specs.Stages.{number, Verdict, FailsFirst, here, later, stage_at, verdict_of, passed_only, clear_only, refused_only}
use Rattle.checks.specs.Check.{table_stages}
use Rattle.checks.specs.Theorems.{Bounded}
use Rattle.checks.proofs.Theorems.{refusal_below, table_bounded}
use Rattle.checks.specs.declared.Fault.{Fault}
use Rattle.checks.specs.declared.Fault.TheVariants.{NoLevel}
use Rattle.undo.specs.Stores.{State}
use Rattle.undo.specs.Log.{most_log_records, changed, entries_needed, entries_held}
use Rattle.check_log.specs.BadLog.{LogSizes}
use Rattle.check_log.proofs.Open.{open_sizes}
use Rattle.check_log.specs.Bounds.{open_below}
use Rattle.swap_rules.specs.Record.{is_free_node, same}
use Rattle.swap_rules.specs.Swap.{x_at, y_at, both_asked, crossing, is_new, wanted, news, needed, free_count}
use Rattle.swap_preparing.specs.Table.{needed_in, free_in, fits_in}
use Rattle.swap_ways.specs.Ways.{lack, short, table_after, entries_for, way_of}
use Rattle.swaps.specs.Outcome.{no_level, store_stages, swap_stages, swap_after, swap_judged, swap_call, numbers}
use Rattle.swaps.proofs.Entry.{swap_starts}
use Rattle.swap_ways.specs.declared.Way.TheVariants as way

module _ (T : ℕ → Node) (N x y : ℕ) where
  -- each crossing record asks for two
  wanted_small : length (wanted plain T N x y) ≤ 2 * N
  unfolding wanted
  wanted_small =
      let crossers : List ℕ = which (crossing plain T x y) N in
      omega (arith, each_length (both_asked plain T x y) 2 (λ i. refl) crossers, which_length (crossing plain T x y) N, count_small (crossing plain T x y) N)

  needed_small : needed plain T N x y ≤ 2 * N
  unfolding needed news
  needed_small =
      let made : List Node = keep (is_new plain T N x y) (wanted plain T N x y) in
      omega (arith, once_short same made, keep_short (is_new plain T N x y) (wanted plain T N x y), wanted_small)

free_small : (T : ℕ → Node) (N : ℕ) → free_count T N ≤ N
unfolding free_count
free_small T N = count_small (λ i. is_free_node (T i)) N

-- both are small of a table that isn't too long
pub room_small : (t : List ℕ) (x y m : ℕ) → 2 * most_records < m → length t ≤ record_size * most_records
    → (needed_in t x y < m) × (free_in t < m)
room_small t x y m big few = (omega (arith, needed_small (at (decode t)) (records t) x y), omega (arith, free_small (at (decode t)) (records t)))

-- so are the entries: one for each record at most, and one for the order
pub entries_small : (t u : List ℕ) (m : ℕ) → most_records + 1 < m → length t ≤ record_size * most_records → entries_needed t u < m
unfolding entries_needed
entries_small t u m big few = omega (arith, which_length (changed t u) (records t), count_small (changed t u) (records t))

pub held_small : (log : List ℕ) (m : ℕ) → most_log_records < m → LogSizes log → entries_held log < m
held_small log m big sizes = omega (arith, sizes.few)

-- ---- every number of an answer is below m

module _ (s : State) (r : List ℕ) (k m : ℕ) (big : 2 * most_records < m) (level : k < m) where
  abbrev t : List ℕ
  t = s.table

  abbrev o : List ℕ
  o = s.order

  way_below : (b c : Bool) (n f e h : ℕ) → (n < m) × (f < m) → (e < m) × (h < m)
      → Below m (numbers (swap_after s r k (cond b (cond c way.Clear (way.LogShort (short k e h))) (way.NoRoom (lack k n f)))).answer)
  way_below true true n f e h w v = (omega arith, tt)
  way_below true false n f e h w v = (omega arith, (level, (v.0, (v.1, tt))))
  way_below false c n f e h w v = (omega arith, (level, (w.0, (w.1, tt))))

  refusal_small : (j : Fault) (x : ℕ) → FailsFirst (swap_stages t r o s.log k) j x → (number j < m) × (x < m)
  unfolding swap_stages store_stages table_stages Bounded
  refusal_small _ x (here l d h) = (omega arith, omega arith)
  refusal_small j x (later h f) =
      let sizes = sizes_if t r o (passed_only 0 h) in
      let last = table_bounded t r o (stage_at NoLevel k (no_level o k) ∷ []) m (omega arith) (omega arith, omega arith, tt) sizes in
      open_below s.log (records t) (length o) m _ (omega arith) j x
      (λ i y g. refusal_below m _ i y (omega arith, omega (arith, sizes.few_variables), last) g) (rw (append_assoc _ _ _) at f)

  judged_below : (v : Verdict) → verdict_of (swap_stages t r o s.log k) ≡ v → Below m (numbers (swap_judged s r k v).answer)
  unfolding way_of
  judged_below (Ok _) e =
      let able = swap_starts t r o s.log k (clear_only (swap_stages t r o s.log k) e) in
      let few = able.usable.sizes.few_records in
      way_below (fits_in t r (x_at o k) (y_at o k)) (leb (entries_for t r o k) (entries_held s.log)) _ _ _ _
      (room_small t (x_at o k) (y_at o k) m big few)
      (entries_small t (table_after t r o k) m (omega arith) few, held_small s.log m (omega arith) (open_sizes able.log_open))
  judged_below (Err f) e =
      let w = refusal_small f.fault f.place (refused_only (swap_stages t r o s.log k) f.fault f.place e) in
      (w.0, (w.1, tt))

  pub swap_numbers_small : Below m (numbers (swap_call s r k).answer)
  unfolding swap_call
  swap_numbers_small = judged_below (verdict_of (swap_stages t r o s.log k)) refl
