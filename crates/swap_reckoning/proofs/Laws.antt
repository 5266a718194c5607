-- What a swap asks for, in its work area: one law for each way out of a function, over plain variables.
use Prim.Native.Nat.{ℕ, ◌+◌, ◌≤◌, ◌<◌}
use mathlib.Core.Bool.{Bool, true, false}
use mathlib.Core.List.{List, [], ◌∷◌, ◌++◌}
use mathlib.Core.Path.{◌≡◌, ap, sym, ◌∙◌}
use native.Mathlib.Omega.{arith}
use borrow.Author.Rules.{rules}
use borrow.Author.Tests.{lt-ltb, le-ltb}
use lib.Dec.{eqb}
use lib.ListN.{length, get_or, get_or-eq_default, length-append}
use Rattle.std.specs.Prelude.{Some, None}
use Rattle.lists.specs.First.{first, any, first_none}
use Rattle.lists.specs.Found.{found, some_found, none_found}
use Rattle.lists.specs.Says.{either_side}
use Rattle.diagrams.specs.Layout.{most_records, records}
use Rattle.swap_records.specs.Listed.{Inside}
use Rattle.swap_records.specs.Children.{children}
use Rattle.swap_records.specs.declared.children.Children.{Children}
use Rattle.swap_reckoning.specs.Searching.{matches_at, new_at, note_pair, slot_at, settled_at, Searchable, Noted}
use Rattle.swap_reckoning.specs.Reckoned.{asks_low, asks_high, answered}
use Rattle.swap_reckoning.specs.Reckoned.{turns_begin, turn_comes, turn_next, turn_asks, turn_keeps, turn_taken, turns_all}

-- ---- a search

any_found : (p : ℕ → Bool) (n : ℕ) {i : ℕ} → found p n ≡ Some i → any p n ≡ true
any_found p n h = let f = some_found h in lt-ltb (first p n) n (omega (arith, f.0, f.3))

any_none_found : (p : ℕ → Bool) (n : ℕ) → found p n ≡ None → any p n ≡ false
any_none_found p n h = le-ltb (first p n) n (omega (arith, first_none p n (none_found h)))

-- ---- a slot

module _ (slots : List ℕ) (j : ℕ) where
  pub slot_there : {v w : ℕ} → v ≡ get_or slots j 0 → w ≡ v + 2 → w ≡ slot_at slots j
  unfolding slot_at
  slot_there e q = cc

  pub slot_past : {w : ℕ} → w ≡ 0 + 2 → length slots ≤ j → w ≡ slot_at slots j
  unfolding slot_at
  slot_past q h = q ∙ ap (λ v. v + 2) (sym (get_or-eq_default slots 0 h))

  slot_small : {t : List ℕ} → Inside t slots → records t ≤ most_records → slot_at slots j < 65536
  unfolding slot_at
  slot_small s few = either_side j (length slots) (λ h. omega (arith, s.at j h)) (λ h. omega (arith, get_or-eq_default slots 0 h))

-- ---- X(a, b) is asked for

module _ {t standing slots : List ℕ} {news : List Children} (s : Searchable t standing slots news) where
  pub note_one : {e : Bool} (a b : ℕ) → e ≡ eqb a b → e ≡ true → a < 65536 → Noted t standing slots news a b news a
  unfolding note_pair settled_at
  note_one a b e h l = let one : eqb a b ≡ true = sym e ∙ h in record { noted = rw one; settled = rw one; small = l; few = omega arith }

  module _ {e : Bool} (a b : ℕ) (eq : e ≡ eqb a b) (ne : e ≡ false) where
    differ : eqb a b ≡ false
    differ = sym eq ∙ ne

    pub note_stands : {k v w : ℕ} → Some k ≡ found (matches_at t standing a b) (length standing) → v ≡ get_or standing k 0 → w ≡ v + 2
        → Noted t standing slots news a b news w
    unfolding note_pair settled_at
    note_stands {k} here e p =
        let f = some_found (sym here) in
        let place : k ≡ first (matches_at t standing a b) (length standing) = f.3 in
        let stands : any (matches_at t standing a b) (length standing) ≡ true = any_found _ _ (sym here) in
        record {
          noted = rw (differ, stands);
          settled = p ∙ rw (differ, stands, ← place, e);
          small = omega (arith, s.few, s.standing_in.at k f.0);
          few = omega arith;
        }

    module _ (none : None ≡ found (matches_at t standing a b) (length standing)) {c : Children} (wanted : c ≡ children a b) where
      no_match : any (matches_at t standing a b) (length standing) ≡ false
      no_match = any_none_found _ _ (sym none)

      module _ {j w : ℕ} (place : j ≡ first (new_at news (children a b)) (length news)) (at : w ≡ slot_at slots j) where
        settled_there : w ≡ settled_at t standing news a b slots
        unfolding settled_at
        settled_there = at ∙ rw (differ, no_match, ← place)

        small_there : w < 65536
        small_there = rw at (slot_small slots j s.slots_in_lem s.few)

      pub note_known : {j w : ℕ} → Some j ≡ found (new_at news c) (length news) → w ≡ slot_at slots j → Noted t standing slots news a b news w
      unfolding note_pair
      note_known {j} here at =
          let here' : found (new_at news (children a b)) (length news) ≡ Some j = rw wanted at (sym here) in
          let place : j ≡ first (new_at news (children a b)) (length news) = (some_found here').3 in
          record {
            noted = rw (differ, no_match, any_found _ _ here');
            settled = settled_there place at;
            small = small_there place at;
            few = omega arith;
          }

      pub note_new : {news' : List Children} {j w : ℕ} → None ≡ found (new_at news c) (length news) → j ≡ length news → news' ≡ news ++ (c ∷ [])
          → w ≡ slot_at slots j → Noted t standing slots news a b news' w
      unfolding note_pair
      note_new {news'} {j} new end e at =
          let new' : found (new_at news (children a b)) (length news) ≡ None = rw wanted at (sym new) in
          let place : j ≡ first (new_at news (children a b)) (length news) = end ∙ sym (first_none _ _ (none_found new')) in
          record {
            noted = rw (differ, no_match, any_none_found _ _ new', e, wanted);
            settled = settled_there place at;
            small = small_there place at;
            few = omega (arith, ap length e, length-append news (c ∷ []));
          }

-- ---- one record asks, and the crossing records take their turns

pub ruleset asking = (asks_low, asks_high, answered, rules)

pub ruleset turning = (turns_begin, turn_comes, turn_next, turn_asks, turn_keeps, turn_taken, turns_all, rules)
