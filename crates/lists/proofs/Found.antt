-- What std's searches over the numbers below n give, in the words of `found`.
use Rattle.std.specs.Prelude.{ℕ, ◌<◌, ◌≤◌, Bool, true, false, Option, Some, None, ◌≡◌, MatchOption, ⊤, List}
use Rattle.std.proofs.Common.{sym, arith, Bor}
use Rattle.std.proofs.lemmas.Iterator.{first_from_Range}
use Rattle.std.proofs.iter.Yields.{nat_range_steps}
use Rattle.std.specs.Iterator.{YieldsThen}
use Rattle.std.specs.List.{FoldsTo}
use Rattle.std.specs.Fn.{CalledAt}
use denote.Param.Members.{Mut}
use Rattle.std.specs.declared.ops.Range.{Range}
use Rattle.lists.specs.Found.{found, found_at, found_none}

-- `(0..n).find(|&i| ..)`, whose closure answers p at each number and changes nothing
pub found_by_find : {F : Type 0} {g : Mut F (Bor ℕ × Unit {0}) Bool} (s u : Range ℕ) (f : F) (r : Option ℕ) {m n : ℕ} (p : ℕ → Bool)
    → ((x : ℕ) (b : Bool) (q : F) → CalledAt g f x b q → (q ≡ f) × (b ≡ p x))
    → s ≡ record { start = 0; end = m } → m ≡ n
    → (xs : List ℕ) × (j : F) × YieldsThen nat_range_steps s xs r u × FoldsTo (λ a x q. CalledAt g a x false q) f xs j
    × MatchOption r ⊤ (λ x. (h : F) × CalledAt g j x true h)
    → r ≡ found p n
found_by_find s u f r {m} {n} p calls e z ran =
    told r (first_from_Range s u f r (λ x. p x ≡ true) (λ x. p x ≡ false) ran
    (λ x q k. sym (calls x true q k).1) (λ x q k. ((calls x false q k).0, sym (calls x false q k).1)))
  where
    told : (o : Option ℕ) → MatchOption o ((k : ℕ) → s.start ≤ k → k < s.end → p k ≡ false)
        (λ i. (s.start ≤ i) × (i < s.end) × (p i ≡ true) × ((k : ℕ) → s.start ≤ k → k < i → p k ≡ false)) → o ≡ found p n
    told None h =
        let from : s.start ≡ 0 = cc in
        let to : s.end ≡ n = cc in
        sym (found_none p n (record { at = λ k l. h k (omega arith) (omega arith) }))
    told (Some i) h =
        let from : s.start ≡ 0 = cc in
        let to : s.end ≡ n = cc in
        sym (found_at p n i (record { at = λ k l. h.3 k (omega arith) l }) h.2 (omega (arith, h.1)))
