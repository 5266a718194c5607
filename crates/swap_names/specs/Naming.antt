-- Counting names: one more for a reference that a root or a record names, and room for every count in 16 bits.
use Prim.Native.Nat.{ℕ, zero, suc, ◌+◌, ◌*◌, ◌≤◌, ◌<◌}
use Rattle.std.specs.Prelude.{Bool, true, false, cond, not, ◌&&◌, List, ◌≡◌, eqb, length, get_or, set}
use Rattle.std.proofs.Common.{⊎_elim, sym, arith, length-set, get_or-set_same, get_or-set_other}
use Rattle.std.proofs.Math.ListN.{get_or-eq_default}
use Rattle.lists.specs.Fold.{fold, Writes, writes_begin, writes_go, writes_end}
use Rattle.lists.specs.Says.{decided, either_side, says_eqb}
use Rattle.diagrams.specs.Layout.{root_at, low_at, high_at, is_used}
use Rattle.swap_records.specs.Kinds.{of_at}

-- ---- what is named is counted once more

-- the reference q
unfoldable pub named : List ℕ → ℕ → List ℕ
named l q = set l q (get_or l q 0 + 1)

-- what root k names
unfoldable pub named_root : List ℕ → List ℕ → ℕ → List ℕ
named_root r l k = named l (root_at r k)

-- what record i names
unfoldable pub named_by : List ℕ → List ℕ → ℕ → List ℕ
named_by t l i = named (named l (low_at t i)) (high_at t i)

-- the same, where record i is used and no x record
unfoldable pub named_other : List ℕ → ℕ → List ℕ → ℕ → List ℕ
named_other t x l i = cond (is_used t i && not (of_at t x i)) (named_by t l i) l

-- record i has no name
unfoldable pub unnamed : List ℕ → ℕ → Bool
unnamed names i = eqb (get_or names (i + 2) 0) 0

-- ---- no count passes 16 bits

-- there is room for n names more, of any reference
pub record CountRoom (l : List ℕ) (n : ℕ) : Type 0 where
  pub at : (q : ℕ) → get_or l q 0 + n ≤ 65535

pub room_less : {l : List ℕ} {m n : ℕ} → CountRoom l m → n ≤ m → CountRoom l n
room_less c h = record { at = λ q. omega (arith, c.at q) }

named_small : (l : List ℕ) (y q : ℕ) → get_or (named l y) q 0 ≤ get_or l q 0 + 1
unfolding named
named_small l y q = ⊎_elim here (λ d. omega (arith, get_or-set_other l y q (get_or l y 0 + 1) 0 (λ z. d (sym z)))) (decided (says_eqb y q))
  where
    past : length l ≤ q → length (set l q (get_or l q 0 + 1)) ≤ q
    past h = rw length-set h

    here : y ≡ q → get_or (set l y (get_or l y 0 + 1)) q 0 ≤ get_or l q 0 + 1
    here e = rw e
        (either_side q (length l)
        (λ h. omega (arith, get_or-set_same l q (get_or l q 0 + 1) 0 h))
        (λ h. omega (arith, get_or-eq_default (set l q (get_or l q 0 + 1)) 0 (past h))))

pub room_named : {l : List ℕ} (y n : ℕ) → CountRoom l (n + 1) → CountRoom (named l y) n
room_named {l} y n c = record { at = λ q. omega (arith, named_small l y q, c.at q) }

room_both : (t l : List ℕ) (i n : ℕ) → CountRoom l (n + 2) → CountRoom (named_by t l i) n
unfolding named_by
room_both t l i n c = room_named (high_at t i) n (room_named (low_at t i) (n + 1) (room_less c (omega arith)))

-- each step counts at most two names
pub record TwoNames (f : List ℕ → ℕ → List ℕ) : Type 0 where
  pub room : (l : List ℕ) (k n : ℕ) → CountRoom l (n + 2) → CountRoom (f l k) n

pub two_of_root : (r : List ℕ) → TwoNames (named_root r)
unfolding named_root
two_of_root r = record { room = λ l k n c. room_named (root_at r k) n (room_less c (omega arith)) }

pub two_of_other : (t : List ℕ) (x : ℕ) → TwoNames (named_other t x)
unfolding named_other
two_of_other t x = record { room = λ l k n c. go l k n c (is_used t k && not (of_at t x k)) }
  where
    go : (l : List ℕ) (k n : ℕ) → CountRoom l (n + 2) → (b : Bool) → CountRoom (cond b (named_by t l k) l) n
    go l k n c true = room_both t l k n c
    go l k n c false = room_less c (omega arith)

module _ {f : List ℕ → ℕ → List ℕ} (two : TwoNames f) where
  pub room_fold : (l : List ℕ) (k n : ℕ) → CountRoom l (n + 2 * k) → CountRoom (fold f l k) n
  unfolding fold
  room_fold l zero n c = room_less c (omega arith)
  room_fold l (suc k) n c = two.room (fold f l k) k n (room_fold l k (n + 2) (room_less c (omega arith)))

-- ---- a loop that counts, at k of m

pub record Counting (f : List ℕ → ℕ → List ℕ) (start : List ℕ) (m k : ℕ) (l : List ℕ) : Type 0 where
  pub two : TwoNames f
  pub room : CountRoom start (2 * m)
  pub writes : Writes f start m k l

module _ {f : List ℕ → ℕ → List ℕ} {start : List ℕ} {m : ℕ} where
  pub counting_begins : {n : ℕ} → TwoNames f → CountRoom start (2 * n) → m ≡ n → Counting f start m 0 start
  counting_begins two c e = record { two = two; room = rw e c; writes = writes_begin }

  module _ {k : ℕ} {l : List ℕ} (w : Counting f start m k l) where
    pub counting_two : k < m → CountRoom l 2
    counting_two h = rw w.writes.so_far.so_far (room_fold w.two start k 2 (room_less w.room (omega arith)))

    pub counting_one : k < m → CountRoom l 1
    counting_one h = room_less (counting_two h) (omega arith)

    pub counting_goes : {l' : List ℕ} → l' ≡ f l k → length l' ≡ length l → k < m → Counting f start m (k + 1) l'
    counting_goes e s h = record { two = w.two; room = w.room; writes = writes_go w.writes e s h }

    pub counting_ends : {n : ℕ} → m ≤ k → m ≡ n → l ≡ fold f start n
    counting_ends h e = writes_end w.writes h e
