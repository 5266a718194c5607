-- Laws of what specs/Theorems.antt defines.
use Rattle.std.specs.Prelude.{ℕ, ◌≤◌, ◌<◌, Bool, false, List, [], ◌∷◌, ◌⊎◌, ◌≡◌, length, get_or, Ok, Err}
use Rattle.std.proofs.Common.{inl, inr, ⊎_elim, ◌∙◌, not-le_of_lt, leb-false}
use Rattle.std.proofs.Math.Path.{refl, ap, sym}
use native.Mathlib.Omega.{arith}
use Rattle.lists.specs.Apart.{apart}
use Rattle.lists.specs.Count.{bit}
use Rattle.lists.specs.Says.{Says, Some, says, says_eqb, refutes, denies, stable, either_side}
use Rattle.diagrams.specs.Layout.{most_records, root_count, root_at}
use Rattle.diagrams.specs.Node.{Constant, at}
use Rattle.diagrams.specs.Decode.{decode}
use Rattle.diagrams.specs.Lookup.{lookup}
use Rattle.diagrams.specs.Bryant.{Vertex}
use Rattle.diagrams.proofs.Reduced.{look_ends}
use Rattle.diagrams.specs.Value.{met, value, Value}
use Rattle.diagrams.specs.Falls.{meets_terminal, value_is, value_unique}
use Rattle.checks.specs.Stages.{Verdict, clear, refusal, stage_at, verdict_of, AllPass, FailsFirst, none, also, both_rows, only_passed, passed_only}
use Rattle.checks.specs.Stages.{clear_if, clear_only, refused_if, refused_only, row_passes}
use Rattle.checks.specs.Check.{check_stages}
use Rattle.checks.specs.Theorems.{Bounded}
use Rattle.checks.proofs.Theorems.{refusal_small}
use Rattle.checks.specs.Usable.{Usable}
use Rattle.checks.proofs.Usable.{usable_if, passes_all, root_among, usable_clear}
use Rattle.checks.specs.declared.Refusal.{Refusal}
use Rattle.checks.specs.declared.Fault.{Fault}
use Rattle.checks.specs.declared.Fault.TheVariants.{NoRoot, BadInputs}
use Rattle.reading.specs.Read.{ReadAnswer, input_of, no_root, no_input, bad_inputs, read_stages, root_value, read_after, read_of, ReadOutcome}
use Rattle.reading.specs.Theorems.{GoodInputs, Reads}

-- ---- what checks 10 and 11 say

pub no_root_says : (r : List ℕ) (position : ℕ) → Says (no_root r position) (root_count r ≤ position)
no_root_says r position = search says

pub bad_inputs_says : (o inputs : List ℕ) → Says (bad_inputs o inputs) ((length inputs ≡ length o → ⊥) ⊎ Some (λ k. 1 < get_or inputs k 0) (length inputs))
unfolding bad_inputs no_input
bad_inputs_says o inputs = search says

pub good_inputs_if : (o inputs : List ℕ) → bad_inputs o inputs ≡ false → GoodInputs o inputs
good_inputs_if o inputs e =
    let never = refutes (bad_inputs_says o inputs) e in
    record {
      number = stable (says_eqb _ _) (λ h. never (inl h));
      bits = λ k l. either_side 1 (get_or inputs k 0) (λ h. absurd (never (inr (record { index = k; below = l; holds = h })))) (λ h. h);
    }

pub good_inputs_then : (o inputs : List ℕ) → GoodInputs o inputs → bad_inputs o inputs ≡ false
good_inputs_then o inputs g =
    denies (bad_inputs_says o inputs) (⊎_elim (λ h. h g.number) (λ s. omega (arith, s.holds, g.bits s.index s.below)))

-- ---- in a table that the relay can use, the reading of a root meets a constant, for every combination of inputs

module _ (t r o : List ℕ) (usable : Usable t r o) (position : ℕ) (there : position < root_count r) where
  pub root_vertex : Vertex Constant (lookup t) (root_at r position)
  root_vertex = usable.bryant.graph.rooted (root_at r position) (root_among r position there)

  pub meets_constant : (inputs : ℕ → Bool) → Constant (met (lookup t) inputs (length o) (root_at r position))
  meets_constant inputs = meets_terminal (look_ends (at (decode t))) usable.bryant.graph inputs (root_at r position) root_vertex

  -- so what Read computes within n levels is the root's value, which has no bound in it
  pub root_value_lem : (inputs : ℕ → Bool) → Value (lookup t) inputs (root_at r position) (value (lookup t) inputs (length o) (root_at r position))
  root_value_lem inputs = value_is (look_ends (at (decode t))) usable.bryant.graph inputs (root_at r position) root_vertex

module _ (t r o : List ℕ) (position : ℕ) (inputs : List ℕ) where
  -- what Read computes is the root's value
  pub value_reads : Usable t r o → position < root_count r → GoodInputs o inputs → Reads t r o position inputs (root_value t r o position inputs)
  unfolding root_value
  value_reads u b g = record { usable = u; there = b; good = g; value = root_value_lem t r o u position b (input_of inputs) }

  -- and the root's value is what Read computes
  pub computed : {b : Bool} → Reads t r o position inputs b → root_value t r o position inputs ≡ b
  unfolding root_value
  computed w = value_unique (look_ends (at (decode t))) (root_value_lem t r o w.usable position w.there (input_of inputs)) w.value

  read_clear : {b : Bool} → Reads t r o position inputs b → verdict_of (read_stages t r o position inputs) ≡ clear
  unfolding read_stages
  read_clear w =
      let no-root = denies (no_root_says r position) (not-le_of_lt w.there) in
      let bad = good_inputs_then o inputs w.good in
      let own = clear_if _ (also (only_passed position no-root) (also (only_passed 0 bad) none)) in
      sym (row_passes (check_stages t r o) _ (sym (usable_clear t r o w.usable)) refl (sym own))

  pub reads_if : {b : Bool} → Reads t r o position inputs b → read_of t r o position inputs ≡ Ok b
  unfolding read_of
  reads_if w = rw (read_clear w, computed w)

  -- what a value comes from
  value_clear : (v : Verdict) (d : Bool) {b : Bool} → read_after v d ≡ Ok b → (v ≡ clear) × (b ≡ d)
  value_clear (Ok _) d e = (refl, cc)
  value_clear (Err w) d e = apart (cc)

  clear_reads : verdict_of (read_stages t r o position inputs) ≡ clear → Reads t r o position inputs (root_value t r o position inputs)
  unfolding read_stages
  clear_reads e = go (both_rows (check_stages t r o) _ (clear_only _ e))
    where
      go : AllPass (check_stages t r o) × AllPass (stage_at NoRoot position (no_root r position) ∷ stage_at BadInputs 0 (bad_inputs o inputs) ∷ [])
          → Reads t r o position inputs (root_value t r o position inputs)
      go (checks, also root (also good none)) =
          value_reads (usable_if t r o (passes_all t r o checks)) (leb-false (root_count r) position (passed_only position root))
          (good_inputs_if o inputs (passed_only 0 good))

  pub reads_only : {b : Bool} → read_of t r o position inputs ≡ Ok b → Reads t r o position inputs b
  unfolding read_of
  reads_only {b} e = let w = value_clear _ _ e in rw w.1 (clear_reads w.0)

  -- ---- Read refuses with k at x exactly where check k fails first, at x

  read_refused : (v : Verdict) (b : Bool) (w : Refusal) → read_after v b ≡ Err w → v ≡ Err w
  read_refused (Ok _) b w e = apart (cc)
  read_refused (Err u) b w e = cc

  pub read_refuses : (k : Fault) (x : ℕ) → FailsFirst (read_stages t r o position inputs) k x → read_of t r o position inputs ≡ Err (refusal k x)
  unfolding read_of
  read_refuses k x f = ap (λ v. read_after v (root_value t r o position inputs)) (refused_if (read_stages t r o position inputs) k x f)

  pub read_refuses_only : (k : Fault) (x : ℕ) → read_of t r o position inputs ≡ Err (refusal k x) → FailsFirst (read_stages t r o position inputs) k x
  unfolding read_of
  read_refuses_only k x e = refused_only (read_stages t r o position inputs) k x (read_refused _ _ (refusal k x) e)

  pub read_place_small : (m : ℕ) (k : Fault) (x : ℕ) → most_records ≤ m → position < m → read_of t r o position inputs ≡ Err (refusal k x) → x < m
  unfolding read_of read_stages Bounded
  read_place_small m k x g l e =
      (refusal_small t r o (stage_at NoRoot position (no_root r position) ∷ stage_at BadInputs 0 (bad_inputs o inputs) ∷ []) m k x g
      (λ s. (omega arith, omega arith, (omega arith, omega arith, tt)))
      (read_refused _ _ (refusal k x) e)).1

  -- one outcome for each input
  pub read_one : {a b : ReadAnswer} → ReadOutcome t r o position inputs a → ReadOutcome t r o position inputs b → a ≡ b
  read_one p q = p ∙ sym q
