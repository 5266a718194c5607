-- Laws of what specs/Theorems.antt defines.
use Rattle.std.specs.Prelude.{ℕ, ◌≤◌, ◌<◌, List, [], ◌∷◌, ◌++◌, ◌≡◌, refl, Ok, Err}
use Rattle.std.proofs.Common.{append-nil, ap, sym, ◌∙◌, arith}
use Rattle.lists.specs.Apart.{apart}
use Rattle.lists.specs.Count.{count_small}
use Rattle.diagrams.specs.Layout.{most_records, records, is_used}
use Rattle.check_sizes.specs.Sizes.{Sizes, sizes_if}
use Rattle.checks.specs.Stages.{number, Verdict, clear, Stage, stage, refusal, passed_only, verdict_of, FailsFirst, here, later, refused_if, refused_only}
use Rattle.checks.specs.Check.{CheckAnswer, table_stages, check_stages, used, answered, check_of, CheckOutcome}
use Rattle.checks.specs.Usable.{Usable}
use Rattle.checks.proofs.Usable.{usable_clear, clear_usable}
use Rattle.checks.specs.declared.Refusal.{Refusal}
use Rattle.checks.specs.declared.Fault.{Fault}
use Rattle.checks.specs.Theorems.{Bounded}

-- ---- Check accepts exactly what is usable, with the number of its used records
pub accepts : (t r o : List ℕ) → Usable t r o → check_of t r o ≡ Ok (used t)
unfolding check_of
accepts t r o q = ap (λ v. answered v (used t)) (usable_clear t r o q)

-- an answer is of one kind only
answer_clear : (v : Verdict) (n c : ℕ) → answered v n ≡ Ok c → (v ≡ clear) × (c ≡ n)
answer_clear (Ok _) n c e = (refl, cc)
answer_clear (Err w) n c e = apart (cc)

answer_refused : (v : Verdict) (n : ℕ) (w : Refusal) → answered v n ≡ Err w → v ≡ Err w
answer_refused (Ok _) n w e = apart (cc)
answer_refused (Err u) n w e = cc

pub accepts_only : (t r o : List ℕ) (c : ℕ) → check_of t r o ≡ Ok c → Usable t r o × (c ≡ used t)
unfolding check_of
accepts_only t r o c e =
    let w = answer_clear (verdict_of (check_stages t r o)) (used t) c e in
    (clear_usable t r o w.0, w.1)

-- ---- Check refuses with k at x exactly where check k fails at x, at no place before it, and every earlier check passes everywhere
pub refuses : (t r o : List ℕ) (k : Fault) (x : ℕ) → FailsFirst (check_stages t r o) k x → check_of t r o ≡ Err (refusal k x)
unfolding check_of
refuses t r o k x f = ap (λ v. answered v (used t)) (refused_if (check_stages t r o) k x f)

pub refuses_only : (t r o : List ℕ) (k : Fault) (x : ℕ) → check_of t r o ≡ Err (refusal k x) → FailsFirst (check_stages t r o) k x
unfolding check_of
refuses_only t r o k x e = refused_only (check_stages t r o) k x (answer_refused (verdict_of (check_stages t r o)) (used t) (refusal k x) e)

-- ---- one outcome for each input
pub check_one : (t r o : List ℕ) {a b : CheckAnswer} → CheckOutcome t r o a → CheckOutcome t r o b → a ≡ b
check_one t r o p q = p ∙ sym q

-- number and place of a refusal
pub refusal_below : (m : ℕ) (ss : List Stage) (k : Fault) (x : ℕ) → Bounded m ss → FailsFirst ss k x → (number k < m) × (x < m)
unfolding Bounded
refusal_below m [] k x b f = elim f [ ]
refusal_below m (stage k p n ∷ ss) _ x b (here l e h) = (b.0, omega (arith, b.1))
refusal_below m (stage k p n ∷ ss) j x b (later h f) = refusal_below m ss j x b.2 f

pub table_bounded : (t r o : List ℕ) (more : List Stage) (m : ℕ) → most_records ≤ m → Bounded m more → Sizes t r o → Bounded m (table_stages t r o ++ more)
unfolding Bounded table_stages
table_bounded t r o more m g b s =
    let few : records t ≤ m = omega (arith, s.few_records) in
    (omega arith, few, (omega arith, few, (omega arith, few, (omega arith, few, (omega arith, omega (arith, s.few_roots), (omega arith, few, b))))))

-- the same, by Check's stages or by more after them
pub refusal_small : (t r o : List ℕ) (more : List Stage) (m : ℕ) (k : Fault) (x : ℕ) → most_records ≤ m → (Sizes t r o → Bounded m more)
    → verdict_of (check_stages t r o ++ more) ≡ Err (refusal k x) → (number k < m) × (x < m)
unfolding check_stages Bounded
refusal_small t r o more m k x g b e = go k x (refused_only (check_stages t r o ++ more) k x e)
  where
    go : (j : Fault) (y : ℕ) → FailsFirst (check_stages t r o ++ more) j y → (number j < m) × (y < m)
    go _ y (here l d h) = (omega arith, omega arith)
    go j y (later h f) =
        let s : Sizes t r o = sizes_if t r o (passed_only 0 h) in
        refusal_below m _ j y (omega arith, omega (arith, s.few_variables), table_bounded t r o more m g (b s) s) f

pub check_place_small : (t r o : List ℕ) (m : ℕ) (k : Fault) (x : ℕ) → most_records ≤ m → check_of t r o ≡ Err (refusal k x) → x < m
unfolding check_of Bounded
check_place_small t r o m k x g e =
    (refusal_small t r o [] m k x g (λ s. tt) (ap verdict_of (append-nil (check_stages t r o)) ∙ answer_refused _ (used t) (refusal k x) e)).1

pub used_small : (t r o : List ℕ) (n : ℕ) → check_of t r o ≡ Ok n → n ≤ most_records
used_small t r o n e =
    let w = accepts_only t r o n e in
    omega (arith, w.0.sizes.few_records, count_small (is_used t) (records t), w.1)
