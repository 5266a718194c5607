-- What passed checks say, and what the last one answers.
use Rattle.std.specs.Prelude.{ℕ, false, not, List, [], ◌∷◌, ◌++◌, ◌≡◌, refl, eqb, length, Result, Ok, Err, MatchResult}
use Rattle.std.specs.Result.{IsErrAnd}
use Rattle.std.proofs.Common.{ap, sym, ◌∙◌, subst, arith}
use Rattle.std.proofs.lemmas.Result.{err_from_is_err_and}
use Rattle.lists.specs.Truth.{or_neither}
use Rattle.diagrams.specs.Layout.{records}
use Rattle.plans.specs.Numbered.{no_plan, Numbers}
use Rattle.plans.specs.declared.Plan.{Plan}
use Rattle.plans.specs.declared.NoPlan.{NoPlan}
use Rattle.check_sizes.specs.Sizes.{bad_sizes}
use Rattle.checks.specs.Stages.{Verdict, clear, Stage, stage_at, refusal, refused_where, verdict_of, place_ends, row_refuses, row_passes}
use Rattle.checks.specs.declared.Refusal.{Refusal}
use Rattle.checks.specs.declared.Fault.TheVariants as fault
use Rattle.check_log.specs.Slots.{Placeable}
use Rattle.runs.specs.Run.{bad_run_sizes, Planned}
use Rattle.runs.proofs.Theorems.{run_sizes}

-- ---- the sizes are right

pub sizes_right : (t r o g : List ℕ) → bad_run_sizes t r o g ≡ false → bad_sizes t r o ≡ false
unfolding bad_run_sizes
sizes_right t r o g e = (or_neither (bad_sizes t r o) (not (eqb (length g) (length o))) e).0

pub placeable : (t r o g : List ℕ) {m : ℕ} → bad_run_sizes t r o g ≡ false → m ≡ records t → Placeable m (length o)
placeable t r o g e q = let w = (run_sizes t r o g e).0 in (w.some_variables, omega (arith, w.few_records, w.few_variables))

-- ---- the row that ends with the plan

module _ (number : ℕ) where
  abbrev last : List Stage
  last = stage_at fault.NoPlan number (no_plan number) ∷ []

  last_is : verdict_of last ≡ refused_where fault.NoPlan (no_plan number) number
  last_is = sym (place_ends fault.NoPlan number (no_plan number) refl refl)

  -- by the plan that the number stands for, or by the number that no plan has, which `post` says of a refusal
  pub planned_last : {post : NoPlan → Refusal → Type 0} (r : Result Plan NoPlan) (a : Result Plan Refusal) → Numbers number r
      → MatchResult r (λ plan. a ≡ Ok plan) (λ e. IsErrAnd a (post e)) → ((e : NoPlan) (w : Refusal) → post e w → w ≡ refusal fault.NoPlan e.0)
      → Planned number last a
  planned_last (Ok plan) a n m f = subst (Planned number last) (sym m) (last_is ∙ ap (λ b. refused_where fault.NoPlan b number) n.1, n.0)
  planned_last (Err e) a n m f =
      let p = err_from_is_err_and a m in
      let place : p.0 ≡ refusal fault.NoPlan number = f e p.0 p.2 ∙ ap (refusal fault.NoPlan) n.0 in
      subst (Planned number last) (sym p.1) (last_is ∙ ap (λ b. refused_where fault.NoPlan b number) n.1 ∙ ap Err (sym place))

module _ (number : ℕ) (ss more : List Stage) {v : Verdict} (judged : v ≡ verdict_of ss) where
  pub planned_stops : {w : Refusal} (r : Result Plan Refusal) → v ≡ Err w → IsErrAnd r (λ u. u ≡ w) → Planned number (ss ++ more) r
  planned_stops {w} r h s =
      let p = err_from_is_err_and r s in
      subst (Planned number (ss ++ more)) (sym (p.1 ∙ ap Err p.2)) (sym (row_refuses ss more w judged h))

  pub planned_goes : (r : Result Plan Refusal) → v ≡ clear → Planned number more r → Planned number (ss ++ more) r
  planned_goes (Ok plan) h p = (sym (row_passes ss more judged h (sym p.0)), p.1)
  planned_goes (Err w) h p = sym (row_passes ss more judged h (sym p))
