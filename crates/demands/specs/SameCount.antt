-- What Count answers is the same of alike tables.
use Rattle.std.specs.Prelude.{ℕ, ◌<◌, List, [], ◌∷◌, ◌≡◌, refl, ltb, length, Ok, Err}
use Rattle.std.proofs.Math.Path.{ap}
use Rattle.std.proofs.Common.{ap₂, sym, ◌∙◌, leb-false}
use Rattle.lists.specs.Combinations.{how_many}
use Rattle.lists.proofs.Combinations.{many_same}
use Rattle.diagrams.specs.Layout.{root_count}
use Rattle.count_shares.specs.Share.{most_counted, share}
use Rattle.checks.specs.Stages.{Verdict, Stage, stage_at, verdict_of, AllPass, none, also, passed_only, clear_only, row_passes}
use Rattle.checks.specs.Check.{check_stages}
use Rattle.checks.specs.Usable.{Usable}
use Rattle.checks.proofs.Usable.{usable_clear}
use Rattle.checks.specs.declared.Fault.TheVariants.{NoRoot, TooManyInputs}
use Rattle.reading.specs.Read.{no_root, root_value}
use Rattle.counting.specs.Count.{counted, count_stages, trips, count_after, count_of}
use Rattle.demands.specs.Moved.{Alike}
use Rattle.demands.specs.SameRead.{root_value_same}

-- 16 and 10, of n variables: all that is left of Count's checks where a table can be used
abbrev own_stages : (r : List ℕ) (position n : ℕ) → List Stage
own_stages r position n = stage_at TooManyInputs n (ltb most_counted n) ∷ stage_at NoRoot position (no_root r position) ∷ []

usable_count : (t r o : List ℕ) (position : ℕ) → Usable t r o
    → count_of t r o position ≡ count_after t r o position (verdict_of (own_stages r position (length o)))
unfolding count_of count_stages
usable_count t r o position u =
    ap (count_after t r o position) (sym (row_passes (check_stages t r o) (own_stages r position (length o)) refl (usable_clear t r o u) refl))

root_there : (r : List ℕ) (position n : ℕ) → AllPass (own_stages r position n) → position < root_count r
root_there r position n (also few (also root none)) = leb-false (root_count r) position (passed_only position root)

module _ {r t o t' o' : List ℕ} (a : Alike r t o t' o') (position : ℕ) where
  trips_same : position < root_count r → trips t' r o' position ≡ trips t r o position
  unfolding trips
  trips_same b =
      ap (λ n. how_many n (root_value t' r o' position)) a.long
      ∙ many_same (length o) (root_value t' r o' position) (root_value t r o position) (λ inputs c. root_value_same a position inputs b)

  after_same : (v : Verdict) → verdict_of (own_stages r position (length o)) ≡ v → count_after t' r o' position v ≡ count_after t r o position v
  after_same (Ok _) e =
      ap₂ (λ (c n : ℕ). counted c (share c n)) (trips_same (root_there r position (length o) (clear_only (own_stages r position (length o)) e))) a.long
  after_same (Err w) e = refl

  pub count_same : count_of t' r o' position ≡ count_of t r o position
  count_same =
      usable_count t' r o' position a.after
      ∙ ap (λ n. count_after t' r o' position (verdict_of (own_stages r position n))) a.long
      ∙ after_same _ refl
      ∙ sym (usable_count t r o position a.before)
