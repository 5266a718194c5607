-- What names a reference: one law for each way out of a function, over plain variables.
use Prim.Native.Nat.{ℕ, ◌+◌, ◌≤◌}
use mathlib.Core.Bool.{Bool, true, false, not, ◌&&◌}
use mathlib.Core.List.{List}
use mathlib.Core.Path.{◌≡◌, sym, ◌∙◌}
use borrow.Author.Rules.{rules}
use lib.ListN.{length, get_or, set}
use lib.Seq.{set_out}
use Rattle.diagrams.specs.Layout.{root_at, low_at, high_at, is_used}
use Rattle.diagrams.specs.Lookup.{lookup}
use Rattle.diagrams.specs.Node.{ref}
use Rattle.swap_rules.specs.Record.{is_of}
use Rattle.swap_records.specs.Kinds.{of_at}
use Rattle.swap_names.specs.Naming.{named, named_root, named_by, named_other, unnamed, CountRoom, room_less, room_named}
use Rattle.swap_names.specs.Naming.{two_of_root, two_of_other}
use Rattle.swap_names.specs.Naming.{counting_begins, counting_one, counting_two, counting_goes, counting_ends}
use Rattle.swap_names.specs.Slots.{dying_by}

module _ (l : List ℕ) (q : ℕ) where
  pub name_counts : {v : ℕ} → v ≡ get_or l q 0 → set l q (v + 1) ≡ named l q
  unfolding named
  name_counts e = rw e

  pub name_passes : length l ≤ q → l ≡ named l q
  unfolding named
  name_passes h = sym (set_out l q (get_or l q 0 + 1) h)

pub root_counts : (r l : List ℕ) (k : ℕ) {x : ℕ} {l₁ : List ℕ} → x ≡ root_at r k → l₁ ≡ named l x → l₁ ≡ named_root r l k
unfolding named_root
root_counts r l k p q = cc

module _ (t l : List ℕ) (i : ℕ) where
  pub both_counts : {a b : ℕ} {l₁ l₂ : List ℕ} → a ≡ low_at t i → l₁ ≡ named l a → b ≡ high_at t i → l₂ ≡ named l₁ b → l₂ ≡ named_by t l i
  unfolding named_by
  both_counts p q r s = cc

  module _ (x : ℕ) {u b : Bool} (used : u ≡ is_used t i) (of-x : b ≡ is_of x (lookup t (ref i))) where
    other : (is_used t i && not (is_of x (lookup t (ref i)))) ≡ (u && not b)
    other = cc

    pub other_counts : {l' : List ℕ} → (u && not b) ≡ true → l' ≡ named_by t l i → l' ≡ named_other t x l i
    unfolding named_other
    other_counts h q = rw (other ∙ h) q

    pub other_passes : (u && not b) ≡ false → l ≡ named_other t x l i
    unfolding named_other
    other_passes h = rw (other ∙ h)

-- what is left of the room for two names
pub room_left : {l l' : List ℕ} (y : ℕ) → CountRoom l 2 → l' ≡ named l y → CountRoom l' 1
room_left y c e = rw e (room_named y 1 c)

pub ruleset counting =
    (counting_begins, counting_one, counting_two, counting_goes, counting_ends, two_of_root, two_of_other, root_counts, rules)

-- ---- what dies goes to the slots

pub dying_by_lem : (t : List ℕ) (y : ℕ) (names : List ℕ) (i : ℕ) {a b : Bool} → a ≡ of_at t y i → b ≡ unnamed names i → (a && b) ≡ dying_by t y names i
unfolding dying_by
dying_by_lem t y names i p q = rw (p, q)
