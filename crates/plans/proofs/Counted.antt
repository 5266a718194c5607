-- What std's count of the numbers below n that pass a test gives, in the words of `count`.
use Rattle.std.specs.Prelude.{ℕ, zero, suc, ◌+◌, Bool, true, false, cond, List, [], ◌∷◌, ◌≡◌, refl, map, filter, length}
use Rattle.std.specs.List.{range_with_len}
use Rattle.std.proofs.Common.{ap, ap₂, sym, ◌∙◌, add-one, zero-add, length-append}
use Rattle.std.proofs.lemmas.List.{map-id}
use Rattle.std.proofs.lemmas.List.FromFn.{filter_of_map_range_with_len_more}
use Rattle.lists.specs.Count.{count, bit}

one : (b : Bool) (k : ℕ) → length (cond b (k ∷ []) []) ≡ bit b
one true k = refl
one false k = refl

up_to : (p : ℕ → Bool) (n : ℕ) → length (filter p (map (λ k. k) (range_with_len 0 n))) ≡ count p n
unfolding count
up_to p zero = refl
up_to p (suc n) =
    ap length (rw add-one at (filter_of_map_range_with_len_more p (λ k. k) 0 n n (zero-add n)))
    ∙ length-append (filter p (map (λ k. k) (range_with_len 0 n))) (cond (p n) (n ∷ []) [])
    ∙ ap₂ ◌+◌ (up_to p n) (one (p n) n)

pub filtered_count : (p : ℕ → Bool) (n : ℕ) → length (filter p (range_with_len 0 n)) ≡ count p n
filtered_count p n = ap (λ (l : List ℕ). length (filter p l)) (sym (map-id (range_with_len 0 n))) ∙ up_to p n
