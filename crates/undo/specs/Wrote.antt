-- What code that spends `fuel`, the number of stores that may still be made, has done: the first `fuel` of some stores, and the fuel left.
use Rattle.std.specs.Prelude.{ℕ, ◌+◌, ◌-◌, List, [], ◌++◌, ◌≡◌, length, take}
use Rattle.std.proofs.Common.{ap, ap₂, sym, ◌∙◌, subst, arith, length-append}
use Rattle.std.proofs.lemmas.List.{length-map}
use Rattle.std.proofs.Math.Seq.{take-nil}
use Rattle.undo.specs.Stores.{Buffer, State, Store, Poke, pokes, into, buffer_of, held, puts, store_in, puts_both, pokes_both, cut_into}
use Rattle.undo.specs.Rows.{length_pokes}
use Rattle.undo.specs.Mending.{puts_long}

-- in one buffer, that was l and is l'
pub record Wrote (f : ℕ) (ps : List Poke) (l l' : List ℕ) (r : ℕ) : Type 0 where
  pub bytes : l' ≡ pokes (take f ps) l
  pub left : r ≡ f - length ps

-- in the three of them
pub record Spent (f : ℕ) (xs : List Store) (s s' : State) (r : ℕ) : Type 0 where
  pub state : s' ≡ puts (take f xs) s
  pub left : r ≡ f - length xs

less : (f m n : ℕ) → f - m - n ≡ f - (m + n)
less f m n = omega arith

pub wrote_none : {f : ℕ} {l : List ℕ} → Wrote f [] l l f
unfolding pokes
wrote_none {f} {l} = record { bytes = sym (ap (λ (ps : List Poke). pokes ps l) (take-nil {A = Poke} f)); left = omega arith }

pub wrote_more : {f r r' : ℕ} {ps qs : List Poke} {l m l' : List ℕ} → Wrote f ps l m r → Wrote r qs m l' r' → Wrote f (ps ++ qs) l l' r'
wrote_more {f} {r} {r'} {ps} {qs} {l} {m} {l'} a b =
    record {
      bytes = b.bytes ∙ ap₂ (λ (n : ℕ) (x : List ℕ). pokes (take n qs) x) a.left a.bytes ∙ sym (pokes_both f ps qs l);
      left = b.left ∙ ap (λ n. n - length qs) a.left ∙ less f (length ps) (length qs) ∙ ap (λ n. f - n) (sym (length-append ps qs));
    }

pub wrote_as : {f r : ℕ} {ps qs : List Poke} {l l' : List ℕ} → Wrote f ps l l' r → ps ≡ qs → Wrote f qs l l' r
wrote_as {f} {r} {ps} {qs} {l} {l'} a e = subst (λ (x : List Poke). Wrote f x l l' r) e a

pub wrote_long : {f r : ℕ} {ps : List Poke} {l l' : List ℕ} → Wrote f ps l l' r → length l' ≡ length l
wrote_long {f} {r} {ps} {l} {l'} a = ap length a.bytes ∙ length_pokes (take f ps) l

pub spent_none : {f : ℕ} {s : State} → Spent f [] s s f
unfolding puts
spent_none {f} {s} = record { state = sym (ap (λ (xs : List Store). puts xs s) (take-nil {A = Store} f)); left = omega arith }

pub spent_more : {f r r' : ℕ} {xs ys : List Store} {s u s' : State} → Spent f xs s u r → Spent r ys u s' r' → Spent f (xs ++ ys) s s' r'
spent_more {f} {r} {r'} {xs} {ys} {s} {u} {s'} a b =
    record {
      state = b.state ∙ ap₂ (λ (n : ℕ) (x : State). puts (take n ys) x) a.left a.state ∙ sym (puts_both f xs ys s);
      left = b.left ∙ ap (λ n. n - length ys) a.left ∙ less f (length xs) (length ys) ∙ ap (λ n. f - n) (sym (length-append xs ys));
    }

pub spent_as : {f r : ℕ} {xs ys : List Store} {s s' : State} → Spent f xs s s' r → xs ≡ ys → Spent f ys s s' r
spent_as {f} {r} {xs} {ys} {s} {s'} a e = subst (λ (x : List Store). Spent f x s s' r) e a

pub spent_long : (b : Buffer) {f r : ℕ} {xs : List Store} {s s' : State} → Spent f xs s s' r → length (buffer_of b s') ≡ length (buffer_of b s)
spent_long b {f} {r} {xs} {s} {s'} a = ap (λ (x : State). length (buffer_of b x)) a.state ∙ puts_long (take f xs) s b

-- one buffer of the three
pub spent_in : (b : Buffer) (s : State) {f r : ℕ} {ps : List Poke} {l' : List ℕ} → Wrote f ps (buffer_of b s) l' r → Spent f (into b ps) s (held b l' s) r
spent_in b s {f} {r} {ps} {l'} a =
    record {
      state = ap (λ (l : List ℕ). held b l s) a.bytes ∙ sym (cut_into b f ps s);
      left = a.left ∙ ap (λ n. f - n) (sym (length-map ps (store_in b)));
    }
