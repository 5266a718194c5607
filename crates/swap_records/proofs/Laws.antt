-- What a record is to a swap, by its bytes: one law for each way out of a function, over plain variables.
use Prim.Native.Nat.{ℕ, ◌+◌, ◌-◌, ◌≤◌, ◌<◌}
use mathlib.Core.Bool.{Bool, true, false, cond, not, ◌&&◌, ◌||◌}
use mathlib.Core.List.{List, [], ◌∷◌, ◌++◌}
use mathlib.Core.Path.{◌≡◌, refl, sym, ◌∙◌}
use native.Mathlib.Omega.{arith}
use borrow.Author.Rules.{rules}
use borrow.Author.Tests.{eqb-true, eqb-false}
use lib.Dec.{eqb}
use lib.ListN.{length}
use Rattle.lists.specs.Says.{either_side}
use Rattle.diagrams.specs.Layout.{most_records, records, variable_at, low_at, high_at, is_free, is_used, InTable}
use Rattle.diagrams.specs.Node.{free, pick, at, ref}
use Rattle.diagrams.specs.Decode.{decode}
use Rattle.diagrams.specs.Lookup.{lookup, node_of, free_of, past_of, Stored, record_at, stored}
use Rattle.diagrams.specs.References.{names_record, not_inside}
use Rattle.diagrams.proofs.Reduced.{look_ends}
use Rattle.swap_rules.specs.Record.{low_of, high_of, is_of, of_true}
use Rattle.swap_rules.specs.Swap.{grandchild, crosses}
use Rattle.swap_records.specs.Kinds.{of_at, crosses_at, stands_at, child_at, of_is}
use Rattle.swap_records.specs.Listed.{Splits, adds_begins, adds_passes, adds_goes, lists_room}
use Rattle.swap_records.specs.declared.Pair.{Pair}

-- ---- a used record of a variable

module _ (t : List ℕ) (v : ℕ) where
  pub record_of : (i : ℕ) {u : Bool} {w : ℕ} → u ≡ is_used t i → w ≡ variable_at t i → InTable t i → (u && eqb w v) ≡ is_of v (lookup t (ref i))
  record_of i e p l = rw (e, p) (sym (of_is t v i (omega arith)))

  none_of : (x : ℕ) → lookup t x ≡ free → false ≡ is_of v (lookup t x)
  unfolding is_of
  none_of x e = rw e

  -- x names a record, and none
  pub named_of : {b : Bool} {i : ℕ} (x : ℕ) → b ≡ is_of v (lookup t (ref i)) → i ≡ x - 2 → 2 ≤ x → b ≡ is_of v (lookup t x)
  named_of {b} {i} x p e h = let z : x ≡ ref i = omega arith in rw z p

  pub nothing_of : {b : Bool} (x : ℕ) → b ≡ names_record t x → b ≡ false → b ≡ is_of v (lookup t x)
  nothing_of x e h =
      h ∙ none_of x
      (either_side x 2 (look_ends (at (decode t)) x)
      (λ l. let z : x ≡ ref (x - 2) = omega arith in rw z (past_of t (x - 2) (not_inside t x e h l))))

-- ---- a crossing record

module _ (t : List ℕ) (x y : ℕ) where
  crossing_by : (i : ℕ) (f : Bool) → is_free t i ≡ f → i < records t
      → (is_of x (lookup t (ref i)) && (is_of y (lookup t (low_at t i)) || is_of y (lookup t (high_at t i)))) ≡ crosses (lookup t) x y (ref i)
  unfolding crosses is_of low_of high_of
  crossing_by i true q l = rw (free_of t i l (eqb-true (variable_at t i) 255 q))
  crossing_by i false q l = rw (node_of t i l (eqb-false (variable_at t i) 255 q))

  pub crossing_at : (i : ℕ) {a b c : Bool} {l h : ℕ} → a ≡ is_of x (lookup t (ref i)) → l ≡ low_at t i → b ≡ is_of y (lookup t l)
      → h ≡ high_at t i → c ≡ is_of y (lookup t h) → InTable t i → (a && (b || c)) ≡ crosses (lookup t) x y (ref i)
  crossing_at i p q r s u l = rw (p, r, q, u, s) (crossing_by i (is_free t i) refl (omega arith))

-- ---- a grandchild

module _ (t : List ℕ) (y : ℕ) where
  inside : {r v l h : ℕ} → Stored t r v l h → (2 ≤ r) × InTable t (r - 2)
  inside (record_at i b u) = (omega arith, omega arith)

  named_inside : {b : Bool} (c : ℕ) → b ≡ is_of y (lookup t c) → b ≡ true → (2 ≤ c) × InTable t (c - 2)
  named_inside c e h = inside (stored t c (of_true y (lookup t c) (sym e ∙ h)).is)

  pub named_two : {b : Bool} (c : ℕ) → b ≡ is_of y (lookup t c) → b ≡ true → 2 ≤ c
  named_two c e h = (named_inside c e h).0

  pub named_there : {b : Bool} {i : ℕ} (c : ℕ) → b ≡ is_of y (lookup t c) → b ≡ true → i ≡ c - 2 → InTable t i
  named_there c e h p = rw p (named_inside c e h).1

  pub grand_self : {b : Bool} (c : ℕ) (side : Bool) → b ≡ is_of y (lookup t c) → b ≡ false → c ≡ grandchild (lookup t) y side c
  unfolding grandchild
  grand_self c side e h = rw (sym e ∙ h)

  stored_side : (side : Bool) {r v l h : ℕ} → Stored t r v l h → is_of y (lookup t r) ≡ true → child_at t (r - 2) side ≡ grandchild (lookup t) y side r
  unfolding grandchild low_of high_of
  stored_side side (record_at i b u) e = let z : ref i - 2 ≡ i = omega arith in rw (z, e, node_of t i b u)

  -- a child that is a y record: its own child on that side
  pub grand_child : {b : Bool} {i r : ℕ} (c : ℕ) (side : Bool) → b ≡ is_of y (lookup t c) → b ≡ true → i ≡ c - 2 → r ≡ child_at t i side
      → r ≡ grandchild (lookup t) y side c
  grand_child c side e h p q = q ∙ rw p (stored_side side (stored t c (of_true y (lookup t c) (sym e ∙ h)).is) (sym e ∙ h))

pub ruleset grand = (named_two, named_there, grand_self, grand_child, rules)

-- a used record's child on one side, and the grandchild through it on another
pub grand_of : (way : Bool) (t : List ℕ) (y i : ℕ) {c r : ℕ} (side : Bool) → r ≡ grandchild (lookup t) y side c → c ≡ child_at t i way
    → is_free t i ≡ false → InTable t i → r ≡ grandchild (lookup t) y side (pick way (low_of (lookup t (ref i))) (high_of (lookup t (ref i))))
unfolding low_of high_of
grand_of way t y i side p e f l = rw (node_of t i (omega arith) (eqb-false (variable_at t i) 255 f), ← e) p

-- ---- the x records, split

module _ {t : List ℕ} {p : Pair} {crossing standing : List ℕ} where
  pub split_begins : records t ≤ most_records → crossing ≡ [] → standing ≡ [] → Splits t p 0 crossing standing
  split_begins few c s = record { few = few; crossing_are = adds_begins c; standing_are = adds_begins s }

  module _ {i : ℕ} (w : Splits t p i crossing standing) where
    pub split_passes : {b : Bool} → b ≡ of_at t p.x.0 i → b ≡ false → Splits t p (i + 1) crossing standing
    unfolding crosses stands_at
    split_passes e h = record {
      few = w.few;
      crossing_are = adds_passes w.crossing_are (rw (sym e ∙ h));
      standing_are = adds_passes w.standing_are (rw (sym e ∙ h));
    }

    pub crossing_room : i < records t → length crossing < most_records
    crossing_room l = lists_room w.crossing_are l w.few

    pub standing_room : i < records t → length standing < most_records
    standing_room l = lists_room w.standing_are l w.few

    -- an x record crosses or stands
    pub split_goes : {b c : Bool} {crossing' standing' : List ℕ} → b ≡ of_at t p.x.0 i → b ≡ true → c ≡ crosses_at t p.x.0 p.y.0 i
        → crossing' ≡ crossing ++ cond c (i ∷ []) [] → standing' ≡ standing ++ cond (not c) (i ∷ []) []
        → Splits t p (i + 1) crossing' standing'
    unfolding stands_at
    split_goes e h d f g =
        record { few = w.few; crossing_are = adds_goes w.crossing_are d f; standing_are = adds_goes w.standing_are (rw (sym e ∙ h, d)) g }

    pub split_ends : {n : ℕ} → i ≡ n → Splits t p n crossing standing
    split_ends e = rw (← e) w

pub ruleset splitting = (split_begins, split_passes, crossing_room, standing_room, split_goes, split_ends, rules)
