-- What std's search through the numbers below n from the last one gives, in the words of `found_last`.
use Rattle.std.specs.Prelude.{ℕ, suc, Bool, true, false, List, [], ◌∷◌, Option, Some, None, ◌≡◌, MatchOption, ⊤}
use Rattle.std.proofs.Common.{ap, sym, ◌∙◌, subst, arith, Bor}
use Rattle.std.specs.Iterator.{Yields, YieldsThen}
use Rattle.std.specs.Iterator.Adapters.{rev_source, rev_steps}
use Rattle.std.specs.List.{FoldsTo}
use Rattle.std.specs.Fn.{CalledAt}
use Rattle.std.specs.declared.iter.Rev.{Rev}
use Rattle.std.specs.declared.ops.Range.{Range}
use Rattle.std.proofs.iter.runs.Sources.{nat_range_steps_back}
use denote.Param.Members.{Mut}
use Rattle.plans.specs.FoundLast.{found_last, found_last_zero, found_last_at, found_last_before}

module _ {F : Type 0} {g : Mut F (Bor ℕ × Unit {0}) Bool} (f : F) (p : ℕ → Bool)
    (calls : (x : ℕ) (b : Bool) (q : F) → CalledAt g f x b q → (q ≡ f) × (b ≡ p x)) where
  -- what the search has passed tells nothing
  passed : (xs : List ℕ) (s t : Rev (Range ℕ)) (j : F) → (rev_source s).start ≡ 0 → Yields (rev_steps nat_range_steps_back) s xs t
      → FoldsTo (λ a x q. CalledAt g a x false q) f xs j
      → (found_last p (rev_source s).end ≡ found_last p (rev_source t).end) × ((rev_source t).start ≡ 0) × (j ≡ f)
  passed [] s t j z y c = (ap (λ (k : Rev (Range ℕ)). found_last p (rev_source k).end) y, ap (λ (k : Rev (Range ℕ)). (rev_source k).start) (sym y) ∙ z, sym c)
  passed (x ∷ xs) s t j z y c =
      let h = calls x false c.0 c.1 in
      let w = passed xs y.0 t j (y.1.0 ∙ z) y.2 (subst (λ k. FoldsTo (λ a v q. CalledAt g a v false q) k xs j) h.0 c.2) in
      let a : (rev_source s).end ≡ suc x = omega (arith, y.1.1.1, y.1.1.2) in
      (ap (found_last p) a ∙ found_last_before p x (sym h.1) ∙ ap (found_last p) y.1.1.1 ∙ w.0, w.1, w.2)

  found_there : (t u : Rev (Range ℕ)) (j : F) (o : Option ℕ) → (rev_source t).start ≡ 0 → j ≡ f → rev_steps nat_range_steps_back t o u
      → MatchOption o ⊤ (λ x. (h : F) × CalledAt g j x true h) → o ≡ found_last p (rev_source t).end
  found_there t u j None z e y c = let a : (rev_source t).end ≡ 0 = omega (arith, y.1.0) in sym (ap (found_last p) a ∙ found_last_zero p)
  found_there t u j (Some x) z e y c =
      let h = calls x true c.0 (subst (λ k. CalledAt g k x true c.0) e c.1) in
      let a : (rev_source t).end ≡ suc x = omega (arith, y.1.1, y.1.2) in
      sym (ap (found_last p) a ∙ found_last_at p x (sym h.1))

  -- `(0..n).rev().find(|&i| ..)`, whose closure answers p at each number and changes nothing
  pub found_by_rev_find : (s u : Rev (Range ℕ)) (r : Option ℕ) {m n : ℕ} → rev_source s ≡ record { start = 0; end = m } → m ≡ n
      → (xs : List ℕ) × (j : F) × YieldsThen (rev_steps nat_range_steps_back) s xs r u × FoldsTo (λ a x q. CalledAt g a x false q) f xs j
      × MatchOption r ⊤ (λ x. (h : F) × CalledAt g j x true h)
      → r ≡ found_last p n
  found_by_rev_find s u r {m} {n} e z ran =
      let w = passed ran.0 s ran.2.0 ran.1 (ap (λ (k : Range ℕ). k.start) e) ran.2.1 ran.3 in
      found_there ran.2.0 u ran.1 r w.1 w.2 ran.2.2 ran.4 ∙ sym w.0 ∙ ap (λ (k : Range ℕ). found_last p k.end) e ∙ ap (found_last p) z
