-- Laws of what specs/Theorems.antt defines.
use Rattle.std.specs.Prelude.{ℕ, ◌^◌, ◌≤◌, ◌<◌, Bool, false, List, [], ◌∷◌, ◌≡◌, Float, length, Ok, Err}
use Rattle.std.proofs.Math.Path.{refl, ap, sym}
use Rattle.std.proofs.Common.{◌∙◌, not-le_of_lt}
use native.Mathlib.Omega.{arith}
use borrow.Author.Tests.{leb-false, le-ltb, ltb-false}
use Rattle.std.specs.Float.Ieee.Exact.{HasValue}
use Rattle.lists.specs.Apart.{apart}
use Rattle.lists.specs.Combinations.{how_many, all_or_none}
use Rattle.lists.proofs.Combinations.{many_same, many_most, many_if, many_only}
use Rattle.lists.specs.Says.{denies}
use Rattle.diagrams.specs.Layout.{most_records, root_count}
use Rattle.count_shares.specs.Share.{most_counted, share, quotient}
use Rattle.count_shares.proofs.Exact.{share_exact, share_quotient, count_small}
use Rattle.checks.specs.Stages.{Verdict, clear, Stage, refusal, stage_at, verdict_of, AllPass, FailsFirst, none, also, both_rows, only_passed, passed_only}
use Rattle.checks.specs.Stages.{clear_if, clear_only, refused_if, refused_only, row_passes}
use Rattle.checks.specs.Check.{check_stages}
use Rattle.checks.specs.Theorems.{Bounded}
use Rattle.checks.proofs.Theorems.{refusal_small}
use Rattle.checks.specs.Usable.{Usable}
use Rattle.checks.proofs.Usable.{usable_if, passes_all, usable_clear}
use Rattle.checks.specs.declared.Refusal.{Refusal}
use Rattle.count_levels.specs.declared.Trips.{Trips}
use Rattle.checks.specs.declared.Fault.{Fault}
use Rattle.checks.specs.declared.Fault.TheVariants.{TooManyInputs, NoRoot}
use Rattle.reading.specs.Read.{no_root, read_of, root_value}
use Rattle.reading.specs.Theorems.{GoodInputs}
use Rattle.reading.proofs.Theorems.{no_root_says, value_reads, reads_if, reads_only, computed}
use Rattle.counting.specs.Count.{CountAnswer, counted, too_many_inputs, count_stages, trips, count_after, count_of, CountOutcome}
use Rattle.counting.specs.Theorems.{Counts, answers_one}

module _ (t r o : List ℕ) (position : ℕ) where
  -- after Check's checks
  abbrev own_stages : List Stage
  own_stages = stage_at TooManyInputs (length o) (too_many_inputs o) ∷ stage_at NoRoot position (no_root r position) ∷ []

  pub counts_if : {c : ℕ} {s : Float} → Counts t r o position c s → count_of t r o position ≡ counted c s
  unfolding count_of count_stages
  counts_if w =
      let no-root = denies (no_root_says r position) (not-le_of_lt w.there) in
      let few = le-ltb most_counted (length o) w.few_inputs in
      let own = clear_if own_stages (also (only_passed (length o) few) (also (only_passed position no-root) none)) in
      let passed : clear ≡ verdict_of (count_stages t r o position) =
      row_passes (check_stages t r o) own_stages (sym (usable_clear t r o w.usable)) refl (sym own) in
      rw (← passed, w.share, w.count)

  told : (v : Verdict) {c : ℕ} {s : Float} → count_after t r o position v ≡ counted c s
      → (v ≡ clear) × (c ≡ trips t r o position) × (s ≡ share (trips t r o position) (length o))
  told (Ok _) {c} {s} e =
      let same : ◌≡◌ {A = Trips} (record { count = trips t r o position; share = share (trips t r o position) (length o) })
      (record { count = c; share = s }) = cc in
      (refl, sym (ap (λ (w : Trips). w.count) same), sym (ap (λ (w : Trips). w.share) same))
  told (Err w) e = apart (cc)

  clear_counts : verdict_of (count_stages t r o position) ≡ clear → Usable t r o × (length o ≤ most_counted) × (position < root_count r)
  unfolding count_stages
  clear_counts e = go (both_rows (check_stages t r o) own_stages (clear_only _ e))
    where
      go : AllPass (check_stages t r o) × AllPass own_stages → Usable t r o × (length o ≤ most_counted) × (position < root_count r)
      go (checks, also few (also root none)) = (
        usable_if t r o (passes_all t r o checks),
        ltb-false most_counted (length o) (passed_only (length o) few),
        leb-false (root_count r) position (passed_only position root),
      )

  pub counts_only : {c : ℕ} {s : Float} → count_of t r o position ≡ counted c s → Counts t r o position c s
  unfolding count_of
  counts_only e =
      let (passed, p, q) = told _ e in
      let (u, f, b) = clear_counts passed in
      record { usable = u; few_inputs = f; there = b; count = p; share = q ∙ ap (λ k. share k (length o)) (sym p) }

  module _ {c : ℕ} {s : Float} (w : Counts t r o position c s) where
    small : c < 2 ^ 53
    unfolding trips
    small = count_small c (length o) w.few_inputs (rw w.count (many_most (length o) (root_value t r o position)))

    -- the share has exactly the value c / 2 ^ n: nothing is rounded
    pub share_is_exact : HasValue s false c (2 ^ length o)
    share_is_exact = rw w.share (share_exact c (length o) small (omega (arith, w.few_inputs)))

    -- and it is what dividing the two as doubles gives
    pub share_is_quotient : s ≡ quotient c (length o)
    share_is_quotient = w.share ∙ share_quotient c (length o) (omega (arith, small)) (omega (arith, w.few_inputs))

    -- c is the number of combinations under which Read answers 1
    pub counts_reads : c ≡ how_many (length o) (λ inputs. answers_one (read_of t r o position inputs))
    unfolding trips
    counts_reads =
        w.count
        ∙ many_same (length o) (root_value t r o position) _
        (λ inputs g. sym (ap answers_one (reads_if t r o position inputs (value_reads t r o position inputs w.usable w.there g))))

    -- under every combination Read answers b exactly where the count is none (b false), or all (b true)
    module _ (b : Bool) where
      pub uniform_only : c ≡ all_or_none b (length o) → (inputs : List ℕ) → GoodInputs o inputs → read_of t r o position inputs ≡ Ok b
      unfolding trips
      uniform_only e inputs g =
          let reads = value_reads t r o position inputs w.usable w.there g in
          let is = many_only b (length o) (root_value t r o position) (sym w.count ∙ e) inputs g in
          reads_if t r o position inputs reads ∙ ap Ok is

      pub uniform_if : ((inputs : List ℕ) → GoodInputs o inputs → read_of t r o position inputs ≡ Ok b) → c ≡ all_or_none b (length o)
      unfolding trips
      uniform_if h =
          w.count
          ∙ many_if b (length o) (root_value t r o position) (λ inputs g. computed t r o position inputs (reads_only t r o position inputs (h inputs g)))

  -- ---- Count refuses with k at x exactly where check k fails first, at x

  refused : (v : Verdict) (w : Refusal) → count_after t r o position v ≡ Err w → v ≡ Err w
  refused (Ok _) w e = apart (cc)
  refused (Err u) w e = cc

  pub count_refuses : (k : Fault) (x : ℕ) → FailsFirst (count_stages t r o position) k x → count_of t r o position ≡ Err (refusal k x)
  unfolding count_of
  count_refuses k x f = ap (count_after t r o position) (refused_if (count_stages t r o position) k x f)

  pub count_refuses_only : (k : Fault) (x : ℕ) → count_of t r o position ≡ Err (refusal k x) → FailsFirst (count_stages t r o position) k x
  unfolding count_of
  count_refuses_only k x e = refused_only (count_stages t r o position) k x (refused _ (refusal k x) e)

  pub count_place_small : (m : ℕ) (k : Fault) (x : ℕ) → most_records ≤ m → position < m → count_of t r o position ≡ Err (refusal k x) → x < m
  unfolding count_of count_stages Bounded
  count_place_small m k x g l e =
      (refusal_small t r o own_stages m k x g (λ s. (omega arith, omega (arith, s.few_variables), (omega arith, omega arith, tt)))
      (refused _ (refusal k x) e)).1

  -- one outcome for each input
  pub count_one : {a b : CountAnswer} → CountOutcome t r o position a → CountOutcome t r o position b → a ≡ b
  count_one p q = p ∙ sym q
