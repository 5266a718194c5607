-- A file over its limit is refusal 1, and so is an odd number of root bytes. So the program need not read a file further than one byte past its
-- limit. A label list over its limit is no refusal, but labels nothing, read as far as that or whole.
use Rattle.std.specs.Prelude.{ℕ, ◌+◌, ◌*◌, ◌%◌, ◌≤◌, ◌<◌, Bool, ◌≡◌, eqb, length, get_or, take, Err}
use Rattle.std.proofs.Math.Bool.{true, false, cond}
use mathlib.Core.List.{List, [], ◌∷◌}
use Rattle.std.proofs.Math.Logic.{⊎_elim}
use Rattle.std.proofs.Math.Path.{refl, ap, sym, fun_ext}
use Rattle.std.proofs.Common.{◌∙◌, arith, length-take-le, take_all, get_or-take, ne_eqb}
use Rattle.lists.specs.First.{first}
use Rattle.lists.specs.Says.{either_side}
use Rattle.lists.specs.Truth.{by}
use Rattle.diagrams.specs.Layout.{record_size, root_size, most_records, most_roots}
use Rattle.orders.specs.Permutation.{ceiling}
use Rattle.check_sizes.specs.Sizes.{Sizes}
use Rattle.checks.specs.Stages.{refusal, stage_at, verdict_of, place_refuses, row_refuses}
use Rattle.checks.specs.declared.Fault.TheVariants.{BadSizes, NoPlan}
use Rattle.labels.specs.Label.{label_size, most_labels, text_of}
use Rattle.labels.specs.Labelled.{RightLength, Unlabelled, site_wrong, factory_wrong}
use Rattle.labels.proofs.Texts.{text_empty_if}
use Rattle.plans.specs.Numbered.{no_plan}
use Rattle.runs.specs.OneSwap.{plain_swap}
use Rattle.runs.specs.Run.{bad_run_sizes, store_stages, run_stages, run_call}
use Rattle.runs.proofs.Theorems.{run_sizes}
use Rattle.texts.specs.Text.{bytes, places, decimal, numbered}
use Rattle.program.specs.Text.{refusal_text, answer_text, answer_line, plan_text, store_text, printed}
use Rattle.undo.specs.Stores.{puts}
use Rattle.job.specs.Job.{Ran, empty_log, job_with, job_of}
use Rattle.program.specs.Program.{text_with, program_text}

-- which file it is: trip.nod, trip.rts, trip.ord or trip.tgt is too long, or trip.rts doesn't hold whole roots
pub data OverLimit (t r o g : List ℕ) : Type 0 where
  table_long : record_size * most_records < length t → OverLimit t r o g
  roots_long : root_size * most_roots < length r → OverLimit t r o g
  order_long : ceiling < length o → OverLimit t r o g
  target_long : ceiling < length g → OverLimit t r o g
  roots_odd : length r % root_size ≡ 1 → OverLimit t r o g

module _ (t r o g : List ℕ) where
  sizes_wrong : OverLimit t r o g → Sizes t r o × (length g ≡ length o) → ⊥
  sizes_wrong (table_long h) s = omega (arith, s.0.few_records)
  sizes_wrong (roots_long h) s = omega (arith, s.0.few_roots, s.0.whole_roots)
  sizes_wrong (order_long h) s = omega (arith, s.0.few_variables)
  sizes_wrong (target_long h) s = omega (arith, s.0.few_variables)
  sizes_wrong (roots_odd h) s = omega (arith, s.0.whole_roots)

  first_fails : OverLimit t r o g → verdict_of (store_stages plain_swap t r o g empty_log) ≡ Err (refusal BadSizes 0)
  unfolding store_stages
  first_fails h =
      let e = ⊎_elim (λ e. e) (λ e. absurd (sizes_wrong h (run_sizes t r o g e))) (by (bad_run_sizes t r o g)) in
      sym (place_refuses BadSizes 0 (bad_run_sizes t r o g) _ {b = true} (sym e) refl refl)

  -- whatever else the files hold, trip.pln too
  pub over_refused : (p : List ℕ) → OverLimit t r o g → job_of t r o g p ≡ record { answer = Err (refusal BadSizes 0); table = t; order = o }
  unfolding job_with run_call run_stages puts
  over_refused p h =
      let rest = stage_at NoPlan (get_or p 0 0) (no_plan (get_or p 0 0)) ∷ [] in
      let whole = sym (row_refuses (store_stages plain_swap t r o g empty_log) rest (refusal BadSizes 0) (sym (first_fails h)) refl) in
      rw (whole, first_fails h) (either (eqb (length p) 1))
    where
      either : {x : Ran} (b : Bool) → cond b x x ≡ x
      either true = refl
      either false = refl

  pub over_printed : (p s f : List ℕ) → OverLimit t r o g → program_text t r o g p s f ≡ bytes "refused 1 place 0\n"
  unfolding first places decimal numbered refusal_text answer_text answer_line plan_text store_text printed text_with
  over_printed p s f h = ap (λ (ran : Ran). printed (get_or p 0 0) ran.answer (text_of s f) ran.table r ran.order) (over_refused p h)

-- ---- a file read up to one byte past its limit

abbrev cut : ℕ → List ℕ → List ℕ
cut limit l = take (limit + 1) l

cut_long : (limit : ℕ) (l : List ℕ) → limit < length l → limit < length (cut limit l)
cut_long limit l h = omega (arith, length-take-le (limit + 1) l (omega arith))

whole : (limit : ℕ) (l : List ℕ) → length l ≤ limit → cut limit l ≡ l
whole limit l h = take_all (limit + 1) l (omega arith)

same_text : {t r o g t' r' o' g' : List ℕ} (p p' s f : List ℕ) → OverLimit t r o g → OverLimit t' r' o' g'
    → program_text t r o g p s f ≡ program_text t' r' o' g' p' s f
same_text p p' s f h k = over_printed _ _ _ _ p s f h ∙ sym (over_printed _ _ _ _ p' s f k)

-- a plan file of two bytes or more tells no plan, as one cut after two
plan_cut : (t r o g p s f : List ℕ) → program_text t r o g (cut 1 p) s f ≡ program_text t r o g p s f
unfolding text_with job_with
plan_cut t r o g p s f = rw (get_or-take 2 p 0 0 (omega arith), either_side 1 (length p) long (λ l. ap (λ x. eqb (length x) 1) (whole 1 p l)))
  where
    long : 1 < length p → eqb (length (cut 1 p)) 1 ≡ eqb (length p) 1
    long l = ne_eqb (length (cut 1 p)) 1 (λ e. omega (arith, cut_long 1 p l)) ∙ sym (ne_eqb (length p) 1 (λ e. omega arith))

-- the longest list of labels
abbrev L : ℕ
L = label_size * most_labels

-- a list of labels over its limit labels nothing, whole or cut
labels_cut : (s f : List ℕ) → text_of (cut L s) (cut L f) ≡ text_of s f
labels_cut s f =
    either_side L (length s) (λ l. none (λ v. site_wrong (long (cut_long L s l))) (λ v. site_wrong (long l)))
    (λ a. either_side L (length f) (λ l. none (λ v. factory_wrong (long (cut_long L f l))) (λ v. factory_wrong (long l)))
    (λ b. rw (whole L s a, whole L f b)))
  where
    long : {l : List ℕ} → L < length l → RightLength l → ⊥
    long h r = omega (arith, r.few)

    none : {s f s' f' : List ℕ} → ((v : ℕ) → Unlabelled s f v) → ((v : ℕ) → Unlabelled s' f' v) → text_of s f ≡ text_of s' f'
    none u w = fun_ext (λ v. text_empty_if _ _ v (u v) ∙ sym (text_empty_if _ _ v (w v)))

-- the text is that of the whole files
module _ (t r o g p s f : List ℕ) where
  abbrev T : ℕ
  T = record_size * most_records

  abbrev R : ℕ
  R = root_size * most_roots

  abbrev p' : List ℕ
  p' = cut 1 p

  -- trip.lbs and trip.lbf whole
  store_tells : program_text (cut T t) (cut R r) (cut ceiling o) (cut ceiling g) p' s f ≡ program_text t r o g p s f
  store_tells =
      either_side T (length t) (λ l. same_text p' p s f (table_long (cut_long T t l)) (table_long l))
      (λ a. either_side R (length r) (λ l. same_text p' p s f (roots_long (cut_long R r l)) (roots_long l))
      (λ b. either_side ceiling (length o) (λ l. same_text p' p s f (order_long (cut_long ceiling o l)) (order_long l))
      (λ c. either_side ceiling (length g) (λ l. same_text p' p s f (target_long (cut_long ceiling g l)) (target_long l))
      (λ d. rw (whole T t a, whole R r b, whole ceiling o c, whole ceiling g d) (plan_cut t r o g p s f)))))

  pub cut_tells : program_text (cut T t) (cut R r) (cut ceiling o) (cut ceiling g) p' (cut L s) (cut L f) ≡ program_text t r o g p s f
  unfolding text_with
  cut_tells = rw (labels_cut s f) store_tells
