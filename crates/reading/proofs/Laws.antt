-- One law for each way out of a function, over plain variables: its premises are what is known there.
use Prim.Native.Nat.{ℕ, zero, suc, ◌-◌, ◌≤◌, ◌<◌}
use mathlib.Core.Bool.{Bool, true, false}
use mathlib.Core.List.{List, [], ◌∷◌}
use mathlib.Core.Path.{◌≡◌, refl, ap, sym, ◌∙◌}
use native.Mathlib.Numerals.{sub-one}
use native.Mathlib.Omega.{arith}
use borrow.Author.Tests.{eq-eqb, eqb-true, eqb-false, le-leb, lt-leb, ltb-true}
use lib.Dec.{eqb, ltb}
use lib.ListN.{length}
use Rattle.std.specs.Prelude.{Ok, Err}
use Rattle.lists.specs.Count.{bit}
use Rattle.lists.specs.Says.{either_side}
use Rattle.lists.specs.Truth.{not_true, not_false}
use Rattle.diagrams.specs.Layout.{records, root_count, variable_at, low_at, high_at, is_free, root_at}
use Rattle.diagrams.specs.Node.{free, pick, at, ref}
use Rattle.diagrams.specs.References.{names_record, from_two, number_small, not_inside, naming}
use Rattle.diagrams.specs.Decode.{decode}
use Rattle.diagrams.specs.Lookup.{lookup, node_of, free_of, past_of}
use Rattle.diagrams.proofs.Reduced.{look_ends}
use Rattle.diagrams.specs.Value.{chosen, met, value}
use Rattle.diagrams.specs.Falls.{value_terminal}
use Rattle.checks.specs.Stages.{clear, verdict_of, stopped_by, rows}
use Rattle.checks.specs.declared.Refusal.{Refusal}
use Rattle.lists.specs.Found.{any_listed}
use Rattle.std.specs.List.{list_any}
use Rattle.reading.specs.Read.{ReadAnswer, input_of, bad_inputs, no_input, read_stages, root_value, read_after, read_of}

-- ---- the child that is taken

module _ (t : List ℕ) (inputs : ℕ → Bool) (x : ℕ) where
  stays : lookup t x ≡ free → x ≡ chosen inputs (lookup t x) x
  unfolding chosen
  stays e = rw e

  module _ {b : Bool} (flag : b ≡ names_record t x) where
    pub nothing_stays : b ≡ false → x ≡ chosen inputs (lookup t x) x
    nothing_stays h =
        either_side x 2
        (λ l. stays (look_ends (at (decode t)) x l))
        (λ l. let z : x ≡ ref (x - 2) = omega arith in stays (ap (lookup t) z ∙ past_of t (x - 2) (not_inside t x flag h l)))

    -- it names record i
    module _ {i : ℕ} {f : Bool} (named : b ≡ true) (number : i ≡ x - 2) (free? : f ≡ is_free t i) where
      is_ref : x ≡ ref i
      is_ref = omega (arith, from_two t x flag named)

      inside : i < records t
      inside = rw number (number_small t x flag named)

      pub free_stays : f ≡ true → x ≡ chosen inputs (lookup t x) x
      free_stays h = stays (ap (lookup t) is_ref ∙ free_of t i inside (eqb-true (variable_at t i) 255 (sym free? ∙ h)))

      takes : (side : Bool) → f ≡ false → inputs (variable_at t i) ≡ side → pick side (low_at t i) (high_at t i) ≡ chosen inputs (lookup t x) x
      unfolding chosen
      takes side h e = rw (is_ref, node_of t i inside (eqb-false (variable_at t i) 255 (sym free? ∙ h)), e)

      module _ {v a : ℕ} {d : Bool} (used : f ≡ false) (variable : v ≡ variable_at t i) (input : d ≡ inputs v) where
        pub takes_high : d ≡ true → a ≡ high_at t i → a ≡ chosen inputs (lookup t x) x
        takes_high h e = e ∙ takes true used (ap inputs (sym variable) ∙ sym input ∙ h)

        pub takes_low : d ≡ false → a ≡ low_at t i → a ≡ chosen inputs (lookup t x) x
        takes_low h e = e ∙ takes false used (ap inputs (sym variable) ∙ sym input ∙ h)

pub ruleset taking = (not_true, not_false, nothing_stays, free_stays, takes_high, takes_low, naming)

-- ---- the value, level by level

module _ (t : List ℕ) (inputs : ℕ → Bool) where
  pub constant_value : {b : Bool} (n x : ℕ) → b ≡ ltb x 2 → b ≡ true → eqb x 1 ≡ value (lookup t) inputs n x
  constant_value n x e h = sym (value_terminal (lookup t) inputs n x (look_ends (at (decode t)) x (ltb-true x 2 (sym e ∙ h))))

  pub spent_value : (n x : ℕ) → n ≡ 0 → eqb x 1 ≡ value (lookup t) inputs n x
  unfolding value met
  spent_value n x e = rw e

  pub child_value : {b : Bool} {y : ℕ} (n x : ℕ) → y ≡ chosen inputs (lookup t x) x → b ≡ value (lookup t) inputs (n - 1) y → 0 < n
      → b ≡ value (lookup t) inputs n x
  unfolding value met
  child_value zero x e p h = absurd (omega arith)
  child_value (suc n) x e p h = rw (sub-one, e) at p

-- ---- the inputs
pub inputs_told : (o inputs : List ℕ) {b : Bool} → length inputs ≡ length o → b ≡ list_any (λ x. ltb 1 x) inputs → b ≡ bad_inputs o inputs
unfolding bad_inputs no_input
inputs_told o inputs h e = rw (eq-eqb (length inputs) (length o) h) (e ∙ any_listed (λ x. ltb 1 x) inputs)

-- ---- what Read answers

module _ (t r o : List ℕ) (position : ℕ) (inputs : List ℕ) where
  pub read_stops : (w : Refusal) → Err w ≡ verdict_of (read_stages t r o position inputs) → ◌≡◌ {A = ReadAnswer} (Err w) (read_of t r o position inputs)
  unfolding read_of
  read_stops w e = ap (λ v. read_after v (root_value t r o position inputs)) e

  pub read_tells : (b : Bool) {x : ℕ} → clear ≡ verdict_of (read_stages t r o position inputs) → x ≡ root_at r position
      → b ≡ value (lookup t) (input_of inputs) (length o) x → Ok b ≡ read_of t r o position inputs
  unfolding read_of root_value
  read_tells b e is says = rw (says, is) (ap (λ v. read_after v (root_value t r o position inputs)) e)

pub ruleset reading = (stopped_by, read_stops, read_tells, rows)
