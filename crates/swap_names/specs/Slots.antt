-- The slots for new records, in one list: the records that are free before the swap, and after them those that die in it.
use Rattle.std.specs.Prelude.{ℕ, ◌+◌, ◌≤◌, ◌<◌, Bool, true, false, ◌&&◌, List, [], ◌∷◌, ◌++◌, ◌≡◌, length, get_or}
use Rattle.std.proofs.Common.{arith, ◌∙◌, subst}
use Rattle.std.proofs.Math.Path.{ap, sym}
use Rattle.std.proofs.lemmas.Bool.{not-true}
use Rattle.lists.specs.Count.{count_apart}
use Rattle.lists.specs.Mem.{Mem, Apart, at_mem}
use Rattle.lists.specs.Ranks.{count_before}
use Rattle.lists.specs.Truth.{clash, and_left}
use Rattle.lists.specs.Which.{which, which_length, which_agrees, both_mem, both_apart}
use Rattle.diagrams.specs.Edition.{plain}
use Rattle.diagrams.specs.Layout.{most_records, records, is_free}
use Rattle.diagrams.specs.Node.{at}
use Rattle.diagrams.specs.Decode.{decode}
use Rattle.diagrams.specs.Lookup.{roots_of}
use Rattle.check_sizes.specs.Sizes.{TableSizes}
use Rattle.swap_rules.specs.Swap.{dies, slots}
use Rattle.swap_records.specs.Kinds.{used_of, free_is, of_at}
use Rattle.swap_records.specs.Listed.{FreeListed, Inside, Adds, adds_begins, adds_passes, adds_goes, adds_counts}
use Rattle.swap_records.specs.declared.Pair.{Pair}
use Rattle.swap_names.specs.Naming.{unnamed}
use Rattle.swap_names.specs.Dying.{dies_in, Counted}

-- the slots of the definition, of a stored table
abbrev pub slots_in : List ℕ → List ℕ → Pair → List ℕ
slots_in t r p = slots plain (at (decode t)) (records t) p.x.0 p.y.0 (roots_of r)

-- the list holds the slots
pub record SlotsListed (t r : List ℕ) (p : Pair) (list : List ℕ) : Type 0 where
  pub is : list ≡ slots_in t r p

pub slots_which : (t r : List ℕ) (p : Pair) → slots_in t r p ≡ which (is_free t) (records t) ++ which (dies_in t r p) (records t)
unfolding slots
slots_which t r p = ap (λ l. l ++ which (dies_in t r p) (records t)) (which_agrees _ _ (records t) (free_is t))

-- a free record is none of v
free_or_of : (t : List ℕ) (v i : ℕ) → i < records t → is_free t i ≡ true → of_at t v i ≡ true → ⊥
free_or_of t v i l f e = clash f (not-true (is_free t i) (used_of t v i l e))

-- what dies is a y record
dying_of : (t r : List ℕ) (p : Pair) (i : ℕ) → dies_in t r p i ≡ true → of_at t p.y.0 i ≡ true
unfolding dies
dying_of t r p i e = and_left (of_at t p.y.0 i) _ (and_left (of_at t p.y.0 i && _) _ e)

-- no record stands there twice: a free one does not die
pub slots_apart : (t r : List ℕ) (p : Pair) → Apart (slots_in t r p)
slots_apart t r p =
    rw (slots_which t r p)
    (both_apart (is_free t) (dies_in t r p) (records t) (λ i b f d. free_or_of t p.y.0 i b f (dying_of t r p i d)))

-- they are records of the table
pub slots_inside : {t r : List ℕ} {p : Pair} {list : List ℕ} → SlotsListed t r p list → Inside t list
slots_inside {t} {r} {p} {list} s = record { at = λ j h. omega (arith, below j h) }
  where
    both : list ≡ which (is_free t) (records t) ++ which (dies_in t r p) (records t)
    both = s.is ∙ slots_which t r p

    below : (j : ℕ) → j < length list → get_or list j 0 < records t
    below j h = (both_mem (is_free t) (dies_in t r p) (records t) _ (subst (Mem (get_or list j 0)) both (at_mem list j 0 h))).0

-- ---- the loop that adds what dies

-- there is a count for the reference of each record
pub record NamesFor (t names : List ℕ) : Type 0 where
  pub few : records t ≤ most_records
  pub long : length names ≡ most_records + 2

-- record i dies, by the counts: a y record without a name
unfoldable pub dying_by : List ℕ → ℕ → List ℕ → ℕ → Bool
dying_by t y names i = of_at t y i && unnamed names i

-- the list holds the free records, and after them those below i that die
pub record Adding (t : List ℕ) (y : ℕ) (names : List ℕ) (i : ℕ) (list : List ℕ) : Type 0 where
  pub names_for : NamesFor t names
  pub so_far : Adds (which (is_free t) (records t)) (dying_by t y names) i list

free_or_dying : (t : List ℕ) (y : ℕ) (names : List ℕ) (i : ℕ) → i < records t → is_free t i ≡ true → dying_by t y names i ≡ true → ⊥
unfolding dying_by
free_or_dying t y names i l f e = free_or_of t y i l f (and_left (of_at t y i) _ e)

module _ {t : List ℕ} {y : ℕ} {names list : List ℕ} where
  pub adding_begins : NamesFor t names → FreeListed t list → Adding t y names 0 list
  adding_begins n f = record { names_for = n; so_far = adds_begins f.is }

  module _ {i : ℕ} (w : Adding t y names i list) where
    -- there is room for the next one: no record is in the list twice
    pub adding_room : {b : Bool} → b ≡ dying_by t y names i → b ≡ true → i < records t → length list < most_records
    adding_room e h l =
        omega (
          arith,
          w.names_for.few,
          adds_counts w.so_far,
          which_length (is_free t) (records t),
          count_before (dying_by t y names) (records t) i l (sym e ∙ h),
          count_apart (is_free t) (dying_by t y names) (records t) (free_or_dying t y names),
        )

    pub adding_passes : {b : Bool} → b ≡ dying_by t y names i → b ≡ false → Adding t y names (i + 1) list
    adding_passes e h = record { names_for = w.names_for; so_far = adds_passes w.so_far (sym e ∙ h) }

    pub adding_goes : {b : Bool} {list' : List ℕ} → b ≡ dying_by t y names i → b ≡ true → list' ≡ list ++ (i ∷ [])
        → Adding t y names (i + 1) list'
    adding_goes e h q = record { names_for = w.names_for; so_far = adds_goes w.so_far (sym h ∙ e) q }

    pub adding_ends : {n : ℕ} → i ≡ n → Adding t y names n list
    adding_ends e = rw (← e) w

-- the counts tell what dies
module _ {t r : List ℕ} {p : Pair} {names : List ℕ} (C : Counted t r p names) where
  pub names_for : TableSizes t r → NamesFor t names
  names_for s = record { few = omega (arith, s.few_records); long = C.long }

  pub slots_listed : {list : List ℕ} → Adding t p.y.0 names (records t) list → SlotsListed t r p list
  unfolding dying_by
  slots_listed a = record { is = a.so_far.is ∙ sym same }
    where
      same : slots_in t r p ≡ which (is_free t) (records t) ++ which (dying_by t p.y.0 names) (records t)
      same = slots_which t r p ∙ ap (λ l. which (is_free t) (records t) ++ l) (which_agrees _ _ (records t) (λ i l. sym (C.tell i l)))

pub ruleset adding = (adding_begins, adding_room, adding_passes, adding_goes, adding_ends)
