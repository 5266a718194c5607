-- What `contains` says of the first places of an order.
use Rattle.std.specs.Prelude.{ℕ, zero, suc, ◌≤◌, ◌<◌, Bool, ◌||◌, List, ◌≡◌, nat_eq, length, get_or, take}
use Rattle.std.specs.List.{list_any}
use Rattle.std.proofs.Common.{ap, sym, ◌∙◌, arith}
use Rattle.std.proofs.lemmas.Bool.{lt-leb}
use Rattle.std.proofs.Math.Numerals.{add-one}
use Rattle.std.proofs.lemmas.List.Folds.{list_any_more}
use Rattle.lists.specs.First.{any, any_none, any_more}
use Rattle.orders.specs.Permutation.{holds_at}
use Rattle.check_permutation.specs.BadPlace.{bad_place}

-- v stands at one of the first k places
stands_before : (o : List ℕ) (v k : ℕ) → k ≤ length o → list_any (λ y. nat_eq y v) (take k o) ≡ any (holds_at o v) k
unfolding holds_at
stands_before o v zero l = sym (any_none (holds_at o v))
stands_before o v (suc k) l =
    (rw add-one at (list_any_more (λ y. nat_eq y v) o k 0 (omega arith)))
    ∙ ap (λ b. b || nat_eq (get_or o k 0) v) (stands_before o v k (omega arith))
    ∙ sym (any_more (holds_at o v) k)

-- so a variable in range is a bad one where it stands there
pub repeats : (o : List ℕ) (k : ℕ) {v : ℕ} {b : Bool} → k < length o → v ≡ get_or o k 0 → v < length o → b ≡ list_any (λ y. nat_eq y (get_or o k 0)) (take k o)
    → b ≡ bad_place o k
unfolding bad_place
repeats o k {v} {b} l e m h = rw (lt-leb (length o) (get_or o k 0) (omega arith)) (h ∙ stands_before o (get_or o k 0) k (omega arith))
