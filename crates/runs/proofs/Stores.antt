-- The stores of a slice: all of them leave what the slice leaves, and the first f of them stop it between two swaps or within one.
use Prim.Native.Nat.{ℕ, zero, suc, ◌+◌, ◌-◌, ◌*◌, ◌≤◌, ◌<◌, zero-le, suc-le-suc}
use Rattle.std.specs.Prelude.{Bool, false, ◌≡◌, take}
use Rattle.std.proofs.Math.Bool.{true}
use mathlib.Core.List.{List, [], ◌++◌, append_assoc}
use Rattle.std.proofs.Math.Path.{refl, ap, sym}
use Rattle.std.proofs.Common.{ap₂, ◌∙◌, zero-add, suc-add, arith, take_all}
use Rattle.std.proofs.Math.ListN.{length, length-append}
use Rattle.std.proofs.Math.Seq.{take-nil}
use Rattle.std.proofs.lemmas.List.{take-append-le}
use Rattle.lists.specs.Says.{either_side}
use Rattle.plans.specs.Plans.{Plan}
use Rattle.slice_rules.specs.Slices as over
use Rattle.slice_rules.proofs.Slices as over_laws
use Rattle.slice_rules.specs.Slices.{Relay}
use Rattle.undo.specs.Stores.{in_log, State, Store, puts, puts_append, puts_both}
use Rattle.undo.specs.Mending.{puts_long}
use Rattle.undo.specs.Log.{entry_size, most_log_records, entries_needed, entries_held}
use Rattle.undo.specs.Counts.{enough}
use Rattle.undo.proofs.Counts.{swap_few}
use Rattle.swap_ways.specs.declared.Way.{Way}
use Rattle.runs.specs.OneSwap.{OneSwap}
use Rattle.runs.specs.Run.{stores_of, relay, run_stores}

module _ (W : OneSwap) (plan : Plan) (r g : List ℕ) where
  abbrev R : Relay State Way
  R = relay W r

  abbrev S : ℕ → State → List Store
  S = run_stores W plan r g

  -- the stores of the next planned swap
  abbrev pub next_stores : State → List Store
  next_stores s = stores_of W r s (over.next R plan g s)

  pub stepped_is : (s : State) → over.stepped R plan g s ≡ puts (next_stores s) s
  unfolding relay
  stepped_is s = refl

  stores_go : (b : ℕ) (s : State) → over.goes R plan g s ≡ true → S (suc b) s ≡ next_stores s ++ S b (over.stepped R plan g s)
  unfolding run_stores
  stores_go b s e = rw e

  pub stores_rest : (b : ℕ) (s : State) → over.goes R plan g s ≡ false → S b s ≡ []
  unfolding run_stores
  stores_rest zero s e = refl
  stores_rest (suc b) s e = rw e

  -- by cases of one swap: none is to be made, or one and then the others
  by_swaps : (P : ℕ → State → Type 0) → ((s : State) → P 0 s) → ((b : ℕ) (s : State) → over.goes R plan g s ≡ false → P (suc b) s)
      → ((b : ℕ) (s : State) → over.goes R plan g s ≡ true → P b (over.stepped R plan g s) → P (suc b) s) → (b : ℕ) (s : State) → P b s
  by_swaps P z rests goes zero s = z s
  by_swaps P z rests goes (suc b) s = by (over.goes R plan g s) refl (by_swaps P z rests goes b (over.stepped R plan g s))
    where
      by : (c : Bool) → over.goes R plan g s ≡ c → P b (over.stepped R plan g s) → P (suc b) s
      by true e h = goes b s e h
      by false e h = rests b s e

  -- all of them
  pub stores_leave : (b : ℕ) (s : State) → puts (S b s) s ≡ over.leaves R plan g b s
  unfolding run_stores puts over.leaves
  stores_leave =
      by_swaps (λ b s. puts (S b s) s ≡ over.leaves R plan g b s)
      (λ s. refl)
      (λ b s e. ap (λ (l : List Store). puts l s) (stores_rest (suc b) s e) ∙ sym (over_laws.leaves_rests R plan g (suc b) s e))
      (λ b s e h.
      ap (λ (l : List Store). puts l s) (stores_go b s e)
      ∙ puts_append (next_stores s) (S b (over.stepped R plan g s)) s
      ∙ ap (puts (S b (over.stepped R plan g s))) (sym (stepped_is s))
      ∙ h
      ∙ sym (over_laws.leaves_goes R plan g b s e))

  -- those of two budgets
  pub stores_add : (a b : ℕ) (s : State) → S (a + b) s ≡ S a s ++ S b (over.leaves R plan g a s)
  unfolding run_stores over.leaves
  stores_add a b =
      by_swaps (λ a s. S (a + b) s ≡ S a s ++ S b (over.leaves R plan g a s))
      (λ s. ap (λ n. S n s) (zero-add b))
      (λ a s e.
      stores_rest (suc a + b) s e
      ∙ sym (ap₂ (λ (l : List Store) (z : State). l ++ S b z) (stores_rest (suc a) s e) (over_laws.leaves_rests R plan g (suc a) s e) ∙ stores_rest b s e))
      (λ a s e h.
      ap (λ n. S n s) (suc-add a b)
      ∙ stores_go (a + b) s e
      ∙ ap (λ (l : List Store). next_stores s ++ l) h
      ∙ sym (append_assoc (next_stores s) (S a (over.stepped R plan g s)) (S b (over.leaves R plan g a (over.stepped R plan g s))))
      ∙ sym (ap₂ (λ (l : List Store) (z : State). l ++ S b z) (stores_go a s e) (over_laws.leaves_goes R plan g a s e)))
      a

  -- the log holds the entries of a swap that nothing stands in the way of
  pub fits_then : (s : State) → over.fits R s (over.next R plan g s) ≡ true
      → entries_needed s.table (W.table_after s.table r s.order (over.next R plan g s)) ≤ entries_held s.log
  unfolding relay
  fits_then s e = W.entries_fit s.table r s.order (entries_held s.log) (over.next R plan g s) e

  -- no swap makes more stores than the library has fuel for
  pub stores_few : (b : ℕ) (s : State) → length s.log ≤ entry_size * most_log_records → length (S b s) ≤ b * enough
  unfolding run_stores
  stores_few =
      by_swaps (λ b s. length s.log ≤ entry_size * most_log_records → length (S b s) ≤ b * enough)
      (λ s l. omega arith)
      (λ b s e l. omega (arith, ap length (stores_rest (suc b) s e)))
      (λ b s e h l.
      let one = next_few s e l in
      let rest = h (rw (ap (λ (z : State). length z.log) (stepped_is s) ∙ puts_long (next_stores s) s in_log) l) in
      omega (arith, one, rest, ap length (stores_go b s e), length-append (next_stores s) (S b (over.stepped R plan g s))))
    where
      next_few : (s : State) → over.goes R plan g s ≡ true → length s.log ≤ entry_size * most_log_records → length (next_stores s) < enough
      next_few s e l =
          let k = over.next R plan g s in
          swap_few s (W.table_after s.table r s.order k) k (fits_then s (over_laws.goes_on R plan g s e).1) l

  -- ---- the first f of them

  -- a slice of budget b from s, cut at a: after m whole swaps, or within the next one, after e of its stores
  pub data CutAt (b : ℕ) (s a : State) : Type 0 where
    between : (m : ℕ) → m ≤ b → over.made R plan g m s ≡ m → a ≡ over.leaves R plan g m s → CutAt b s a
    within : (m e : ℕ) → m < b → over.made R plan g m s ≡ m → over.goes R plan g (over.leaves R plan g m s) ≡ true
        → e < length (next_stores (over.leaves R plan g m s))
        → a ≡ puts (take e (next_stores (over.leaves R plan g m s))) (over.leaves R plan g m s) → CutAt b s a

  one_more : {b : ℕ} {s a : State} → over.goes R plan g s ≡ true → CutAt b (over.stepped R plan g s) a → CutAt (suc b) s a
  one_more {b} {s} {a} e (between m l c p) =
      between (suc m) (suc-le-suc l) (over_laws.made_goes R plan g m s e ∙ ap suc c) (p ∙ sym (over_laws.leaves_goes R plan g m s e))
  one_more {b} {s} {a} e (within m f l c h k p) =
      let z = over_laws.leaves_goes R plan g m s e in
      within (suc m) f (suc-le-suc l) (over_laws.made_goes R plan g m s e ∙ ap suc c) (rw z h) (rw z k) (rw z p)

  pub cut_at : (b : ℕ) (s : State) (f : ℕ) → CutAt b s (puts (take f (S b s)) s)
  unfolding run_stores puts over.leaves over.made
  cut_at =
      by_swaps (λ b s. (f : ℕ) → CutAt b s (puts (take f (S b s)) s))
      (λ s f. between 0 zero-le refl (ap (λ (l : List Store). puts l s) (take-nil {A = Store} f)))
      (λ b s e f.
      between 0 zero-le refl
      (ap (λ (l : List Store). puts (take f l) s) (stores_rest (suc b) s e) ∙ ap (λ (l : List Store). puts l s) (take-nil {A = Store} f)))
      (λ b s e h f. either_side f (length (next_stores s)) (early b s e f) (λ l. late b s e f l (h (f - length (next_stores s)))))
    where
      both : (b : ℕ) (s : State) → over.goes R plan g s ≡ true → (f : ℕ)
          → puts (take f (S (suc b) s)) s ≡ puts (take f (next_stores s ++ S b (over.stepped R plan g s))) s
      both b s e f = ap (λ (l : List Store). puts (take f l) s) (stores_go b s e)

      early : (b : ℕ) (s : State) (e : over.goes R plan g s ≡ true) (f : ℕ) → f < length (next_stores s) → CutAt (suc b) s (puts (take f (S (suc b) s)) s)
      early b s e f l =
          within 0 f (suc-le-suc zero-le) refl e l
          (both b s e f ∙ ap (λ (x : List Store). puts x s) (take-append-le f (next_stores s) (S b (over.stepped R plan g s)) (omega arith)))

      late : (b : ℕ) (s : State) (e : over.goes R plan g s ≡ true) (f : ℕ) → length (next_stores s) ≤ f
          → CutAt b (over.stepped R plan g s) (puts (take (f - length (next_stores s)) (S b (over.stepped R plan g s))) (over.stepped R plan g s))
          → CutAt (suc b) s (puts (take f (S (suc b) s)) s)
      late b s e f l h =
          let p =
          both b s e f
          ∙ puts_both f (next_stores s) (S b (over.stepped R plan g s)) s
          ∙ ap (λ (z : State). puts (take (f - length (next_stores s)) (S b (over.stepped R plan g s))) z)
          (ap (λ (x : List Store). puts x s) (take_all f (next_stores s) l) ∙ sym (stepped_is s)) in
          rw p (one_more e h)
