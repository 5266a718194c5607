-- The laws that the code is proved by: one for each way out, over plain variables.
use Prim.Native.Nat.{ℕ}
use mathlib.Core.List.{List}
use mathlib.Core.Path.{◌≡◌, sym, ◌∙◌}
use borrow.Author.Rules.{rules}
use Rattle.parts.specs.Part.{Inside, Handed}
use Rattle.parts.specs.declared.Part.{Part}
use Rattle.labels.specs.declared.Place.{Place}
use Rattle.labels.specs.declared.Place.TheVariants.{Site, Factory}
use Rattle.labels.specs.Label.{label_of, chosen, part_in, LabelOutcome}
use Rattle.labels.proofs.Labelled.{place_inside}

-- ---- a place that was taken apart

module _ (s f : List ℕ) (v : ℕ) {place : Place} (is : place ≡ label_of s f v) where
  taken_inside : {q : Place} → place ≡ q → Inside (part_in q) (chosen q s f)
  taken_inside e = rw (sym is ∙ e) at (place_inside s f v)

  pub in_site : (p : Part) → place ≡ Site p → Inside p s
  in_site p e = taken_inside e

  pub in_factory : (p : Part) → place ≡ Factory p → Inside p f
  in_factory p e = taken_inside e

  pub taken_handed : (q : Place) {site factory pointer : ℕ × ℕ} {bytes : List ℕ} → place ≡ q
      → Handed (part_in q) (chosen q s f) (chosen q site factory) pointer bytes → LabelOutcome s f v site factory pointer bytes
  taken_handed q e h = record { handed = rw (← is, e) h }

pub ruleset handing = (in_site, in_factory, taken_handed, rules)
