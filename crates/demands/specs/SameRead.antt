-- What Read answers is the same of alike tables.
use Rattle.std.specs.Prelude.{ℕ, ◌≤◌, ◌<◌, List, [], ◌∷◌, ◌≡◌, refl, length, Err}
use Rattle.std.proofs.Math.Path.{ap}
use Rattle.std.proofs.Common.{sym, ◌∙◌, le-leb}
use Rattle.lists.specs.Says.{either_side}
use Rattle.diagrams.specs.Layout.{root_count, root_at}
use Rattle.diagrams.specs.Lookup.{lookup}
use Rattle.diagrams.specs.Value.{value}
use Rattle.checks.specs.Stages.{Stage, stage_at, refusal, verdict_of, row_passes, place_refuses}
use Rattle.checks.specs.Check.{check_stages}
use Rattle.checks.specs.Usable.{Usable}
use Rattle.checks.proofs.Usable.{usable_clear}
use Rattle.checks.specs.declared.Fault.TheVariants.{NoRoot, BadInputs}
use Rattle.reading.specs.Read.{input_of, no_root, bad_inputs, read_stages, root_value, read_after, read_of}
use Rattle.demands.specs.Moved.{Alike}

-- Read's own checks, after those of the table
abbrev own_stages : List ℕ → List ℕ → ℕ → List ℕ → List Stage
own_stages r o position inputs = stage_at NoRoot position (no_root r position) ∷ stage_at BadInputs 0 (bad_inputs o inputs) ∷ []

-- of a table that can be used only these are left
read_usable : (t r o : List ℕ) (position : ℕ) (inputs : List ℕ) → Usable t r o
    → read_of t r o position inputs ≡ read_after (verdict_of (own_stages r o position inputs)) (root_value t r o position inputs)
unfolding read_of read_stages
read_usable t r o position inputs u =
    let own = row_passes (check_stages t r o) (own_stages r o position inputs) refl (usable_clear t r o u) refl in
    ap (λ v. read_after v (root_value t r o position inputs)) (sym own)

-- they ask nothing of the order but its length
own_same : (r o o' : List ℕ) (position : ℕ) (inputs : List ℕ) → length o' ≡ length o
    → verdict_of (own_stages r o' position inputs) ≡ verdict_of (own_stages r o position inputs)
unfolding bad_inputs
own_same r o o' position inputs e = rw e

-- where there is no such root the value doesn't matter
no_root_refused : (r o : List ℕ) (position : ℕ) (inputs : List ℕ) → root_count r ≤ position
    → verdict_of (own_stages r o position inputs) ≡ Err (refusal NoRoot position)
no_root_refused r o position inputs h = sym (place_refuses NoRoot position (no_root r position) _ (sym (le-leb (root_count r) position h)) refl refl)

module _ {r t o t' o' : List ℕ} (a : Alike r t o t' o') where
  pub root_value_same : (position : ℕ) (inputs : List ℕ) → position < root_count r → root_value t' r o' position inputs ≡ root_value t r o position inputs
  unfolding root_value
  root_value_same position inputs b = ap (λ n. value (lookup t') (input_of inputs) n (root_at r position)) a.long ∙ a.same (input_of inputs) position b

  -- after its own checks, Read tells the same value of both: of a root that is there the same one, of any other none
  abbrev told : ℕ → List ℕ → Type 0
  told position inputs =
      read_after (verdict_of (own_stages r o position inputs)) (root_value t' r o' position inputs)
      ≡ read_after (verdict_of (own_stages r o position inputs)) (root_value t r o position inputs)

  gone : (position : ℕ) (inputs : List ℕ) → root_count r ≤ position → told position inputs
  gone position inputs h =
      ap (λ v. read_after v (root_value t' r o' position inputs)) (no_root_refused r o position inputs h)
      ∙ sym (ap (λ v. read_after v (root_value t r o position inputs)) (no_root_refused r o position inputs h))

  value_same : (position : ℕ) (inputs : List ℕ) → told position inputs
  value_same position inputs =
      either_side position (root_count r)
      (λ b. ap (read_after (verdict_of (own_stages r o position inputs))) (root_value_same position inputs b))
      (gone position inputs)

  pub read_same : (position : ℕ) (inputs : List ℕ) → read_of t' r o' position inputs ≡ read_of t r o position inputs
  read_same position inputs =
      read_usable t' r o' position inputs a.after
      ∙ ap (λ v. read_after v (root_value t' r o' position inputs)) (own_same r o o' position inputs a.long)
      ∙ value_same position inputs
      ∙ sym (read_usable t r o position inputs a.before)
