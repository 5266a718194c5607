-- One law for each way out of Count, over plain variables: its premises are what is known there.
use Prim.Native.Nat.{ℕ, ◌≤◌, ◌<◌}
use mathlib.Core.Bool.{Bool}
use mathlib.Core.List.{List}
use mathlib.Core.Path.{◌≡◌, refl, ap, sym, ◌∙◌}
use Rattle.std.specs.Prelude.{Ok, Err, ltb, leb}
use native.Mathlib.Omega.{arith}
use borrow.Author.Tests.{ltb-false, leb-false}
use lib.ListN.{length}
use Rattle.diagrams.specs.Layout.{root_count, root_at}
use Rattle.diagrams.specs.Node.{Constant}
use Rattle.diagrams.specs.Lookup.{lookup}
use Rattle.diagrams.specs.Bryant.{Vertex}
use Rattle.count_shares.specs.Share.{most_counted, share}
use Rattle.count_levels.specs.Mean.{trips_by, Countable}
use Rattle.count_levels.specs.declared.Trips.{Trips}
use Rattle.checks.specs.Stages.{Verdict, clear, refused_where, verdict_of, passed_where}
use Rattle.checks.specs.declared.Fault.TheVariants.{TooManyInputs, NoRoot}
use Rattle.checks.specs.Check.{check_stages}
use Rattle.checks.specs.Usable.{Usable}
use Rattle.checks.proofs.Usable.{clear_usable}
use Rattle.checks.specs.declared.Refusal.{Refusal}
use Rattle.reading.specs.Read.{root_value}
use Rattle.reading.proofs.Theorems.{root_vertex}
use Rattle.counting.specs.Count.{CountAnswer, counted, count_stages, trips, count_after, count_of}

-- what counting asks of a table is had from one that can be used, of no more inputs than are counted
countable : {t r o : List ℕ} → Usable t r o → length o ≤ most_counted → Countable t o
countable u few = record {
  few_records = omega (arith, u.sizes.few_records);
  few_inputs = few;
  order = u.order;
  graph = record {
    indexed = u.bryant.graph.indexed;
    closed = u.bryant.graph.closed;
    rooted = λ x n. absurd n;
    ordered = u.bryant.graph.ordered;
  };
}

module _ (t r o : List ℕ) (position : ℕ) where
  pub count_stops : (w : Refusal) → Err w ≡ verdict_of (count_stages t r o position) → ◌≡◌ {A = CountAnswer} (Err w) (count_of t r o position)
  unfolding count_of
  count_stops w e = ap (count_after t r o position) e

  -- what the checks that passed say of a table
  module _ {v : Verdict} (checked : v ≡ verdict_of (check_stages t r o)) (passed : v ≡ clear) where
    usable : Usable t r o
    usable = clear_usable t r o (sym checked ∙ passed)

    -- 16, with the code's own n
    module _ {n : ℕ} {b : Bool} {u : Verdict} (long : n ≡ length o) (many : b ≡ ltb most_counted n)
        (counted : u ≡ refused_where TooManyInputs b n) (few : u ≡ clear) where
      pub clear_countable : Countable t o
      clear_countable =
          let passed = passed_where TooManyInputs n (ltb most_counted n) many counted few in
          let small : length o ≤ most_counted = ltb-false most_counted (length o) (rw (← long) passed) in
          countable usable small

    module _ {m : ℕ} {b : Bool} {u : Verdict} (roots : m ≡ root_count r) (past : b ≡ leb m position)
        (looked : u ≡ refused_where NoRoot b position) (there : u ≡ clear) where
      pub vertex : {x : ℕ} → x ≡ root_at r position → Vertex Constant (lookup t) x
      vertex is =
          let below : position < m = leb-false m position (passed_where NoRoot position (leb m position) past looked there) in
          rw is (root_vertex t r o usable position (omega arith))

  pub count_tells : {x : ℕ} {w : Trips} → clear ≡ verdict_of (count_stages t r o position) → x ≡ root_at r position
      → w.count ≡ trips_by t (length o) x → w.share ≡ share (trips_by t (length o) x) (length o)
      → ◌≡◌ {A = CountAnswer} (Ok w) (count_of t r o position)
  unfolding count_of trips root_value trips_by
  count_tells {x} {w} e is p q =
      let told : ◌≡◌ {A = CountAnswer} (counted w.count w.share) (count_after t r o position clear) = rw (p, q, is) refl in
      told ∙ ap (count_after t r o position) e
