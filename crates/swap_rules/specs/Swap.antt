-- One swap of the levels k and k + 1: what becomes of each record, read wholly from the table before. docs/RULES.md, 4; sections are cited below.
-- E is the edition of the table. In the plain edition its words say nothing new: `seen E T r` is the record that r names, `look T r`;
-- `one_record E q r` asks whether q is r; `normal E w` is w; and `invert E (E.inverted b) r` is r (`plain_words`).
use Rattle.std.specs.Prelude.{ℕ, ◌+◌, ◌-◌, Bool, true, false, cond, not, ◌&&◌, ◌||◌, List, [], ◌∷◌, ◌++◌, ◌≡◌, refl, eqb, ltb, leb, length, get_or}
use Rattle.lists.specs.First.{first, any}
use Rattle.lists.specs.Count.{count}
use Rattle.lists.specs.Tabulate.{tabulate}
use Rattle.lists.specs.Keep.{keep}
use Rattle.lists.specs.Which.{which}
use Rattle.lists.specs.Each.{each}
use Rattle.lists.specs.Once.{once}
use Rattle.lists.specs.Places.{place_in}
use Rattle.diagrams.specs.Node.{Node, free, node, pick, at, ref, look}
use Rattle.diagrams.specs.Edition.{Edition, plain, invert, one_record, turned, seen}
use Rattle.swap_rules.specs.Record.{low_of, high_of, is_free_node, is_used_node, is_of, same}

-- x is the variable of the upper of the two levels, y that of the lower one
abbrev pub x_at : List ℕ → ℕ → ℕ
x_at ord k = get_or ord k 0

abbrev pub y_at : List ℕ → ℕ → ℕ
y_at ord k = get_or ord (k + 1) 0

-- ---- by references: L r is the record that r names. Through an inverted reference it is seen with the opposites of its own
-- references, so that what is reached through it is inverted too

module _ (L : ℕ → Node) where
  module _ (y : ℕ) where
    -- 4.2: the grandchild through the child c: the low (false) or high (true) reference of a y record; any other c is both of its grandchildren
    unfoldable pub grandchild : Bool → ℕ → ℕ
    grandchild side c = cond (is_of y (L c)) (pick side (low_of (L c)) (high_of (L c))) c

    -- the four grandchildren of r: the first digit is the value of x, by which the child is taken, the second that of y
    unfoldable pub f00 : ℕ → ℕ
    f00 r = grandchild false (low_of (L r))

    unfoldable pub f01 : ℕ → ℕ
    f01 r = grandchild true (low_of (L r))

    unfoldable pub f10 : ℕ → ℕ
    f10 r = grandchild false (high_of (L r))

    unfoldable pub f11 : ℕ → ℕ
    f11 r = grandchild true (high_of (L r))

  module _ (x y : ℕ) where
    -- 4.1: an x record crosses where its low or its high child, or both, is a y record
    unfoldable pub crosses : ℕ → Bool
    crosses r = is_of x (L r) && (is_of y (L (low_of (L r))) || is_of y (L (high_of (L r))))

    -- the x records that a crossing one asks for: x (f00, f10) for its low side (false), x (f01, f11) for its high side (true)
    unfoldable pub asked : Bool → ℕ → Node
    asked false r = node x (f00 y r) (f10 y r)
    asked true r = node x (f01 y r) (f11 y r)

-- the record that is looked for or made where w is asked for: w itself, or, where w's high is inverted, the one with the opposites of both
abbrev pub normal : Edition → Node → Node
normal E w = turned E (E.inverted (high_of w)) w

-- what the words of the edition come to in the plain one
plain_words : (T : ℕ → Node) (w : Node) (b q r : ℕ)
    → (seen plain T r ≡ look T r) × (one_record plain q r ≡ eqb q r) × (normal plain w ≡ w) × (invert plain (plain.inverted b) r ≡ r)
plain_words T w b q r = (refl, refl, refl, refl)

-- ---- by record numbers: T i is record i of a table of N records; past these all is free

module _ (E : Edition) (T : ℕ → Node) (x y : ℕ) where
  -- record i crosses
  abbrev pub crossing : ℕ → Bool
  crossing i = crosses (seen E T) x y (ref i)

  -- record j is w, and does not cross
  unfoldable pub stands : Node → ℕ → Bool
  stands w j = same w (T j) && not (crossing j)

  -- what record i asks for, low before high
  abbrev pub both_asked : ℕ → List Node
  both_asked i = normal E (asked (seen E T) x y false (ref i)) ∷ normal E (asked (seen E T) x y true (ref i)) ∷ []

  -- record j is used and does not cross, so it keeps its references; and one of these names the record of r
  unfoldable pub still_names : ℕ → ℕ → Bool
  still_names r j = is_used_node (T j) && not (crossing j) && (one_record E (low_of (T j)) r || one_record E (high_of (T j)) r)

module _ (T : ℕ → Node) (N : ℕ) where
  -- free: how many records are free before the swap
  unfoldable pub free_count : ℕ
  free_count = count (λ i. is_free_node (T i)) N

  -- and how many are used
  unfoldable pub used_count : ℕ
  used_count = count (λ i. is_used_node (T i)) N

module _ (E : Edition) (T : ℕ → Node) (N x y : ℕ) where
  -- w has to be made: its low is not its high, and no record that does not cross is w
  unfoldable pub is_new : Node → Bool
  is_new w = not (eqb (low_of w) (high_of w)) && not (any (stands E T x y w) N)

  -- 4.3: all that is asked for: by the crossing records in rising record number, by each low before high
  unfoldable pub wanted : List Node
  wanted = each (both_asked E T x y) (which (crossing E T x y) N)

  -- the new records, in the order in which they are first asked for; each is made once, and serves again where it is asked for again
  unfoldable pub news : List Node
  news = once same (keep is_new wanted)

  -- 4.4: needed: how many new records the swap makes
  unfoldable pub needed : ℕ
  needed = length news

  -- the new records go into these records, one into each, in this order
  module _ (into : List ℕ) where
    -- the record number that the new record w gets
    unfoldable pub slot_of : Node → ℕ
    slot_of w = get_or into (first (λ j. same w (get_or news j free)) (length news)) 0

    -- the record number of w: of a record that is w and does not cross, where there is one; otherwise of the new record w
    abbrev pub placed : Node → ℕ
    placed w = cond (any (stands E T x y w) N) (first (stands E T x y w) N) (slot_of w)

    -- 4.3: X(a, b): a itself where b is the same; otherwise the reference of the x record with low a and high b.
    -- Where b is inverted, that record has the opposites of both, and so X(a, b) is the opposite of its reference
    unfoldable pub X : ℕ → ℕ → ℕ
    X a b = cond (eqb a b) a (invert E (E.inverted b) (ref (placed (normal E (node x a b)))))

    -- 4.3: what a crossing record becomes: the y record with low X(f00, f10) and high X(f01, f11)
    unfoldable pub becomes : ℕ → Node
    becomes r = node y (X (f00 (seen E T) y r) (f10 (seen E T) y r)) (X (f01 (seen E T) y r) (f11 (seen E T) y r))

  module _ (roots : List ℕ) where
    -- 4.5: the y record of r dies: no root names it, and no record that keeps its references. A crossing one lets go of the y records that it named
    unfoldable pub dies : ℕ → Bool
    dies r = is_of y (seen E T r) && not (any (λ k. one_record E (get_or roots k 0) r) (length roots)) && not (any (still_names E T x y r) N)

    -- how many records die
    unfoldable pub dying_count : ℕ
    dying_count = count (λ i. dies (ref i)) N

    -- 4.3, case 4: where new records go, one after the other: into the records that are free before the swap, in rising number, and after these
    -- into the records that die, in rising number
    unfoldable pub slots : List ℕ
    slots = which (λ i. is_free_node (T i)) N ++ which (λ i. dies (ref i)) N

    -- 4.4: how many records are used after the swap: those before, plus new, less dying
    unfoldable pub used_afterwards : ℕ
    used_afterwards = used_count T N + needed - dying_count

    -- 4.4: there is room exactly where they are no more than the table has, which is where needed is not above free plus dying (`fits_slots` of Room)
    unfoldable pub fits : Bool
    fits = leb used_afterwards N

    -- which of the slots record i is; the number of slots for one that is none
    unfoldable pub slot_index : ℕ → ℕ
    slot_index = place_in slots

    -- a new record goes to record i
    unfoldable pub filled : ℕ → Bool
    filled i = ltb (slot_index i) needed

    -- 4.3 to 4.6: record i afterwards: a crossing one keeps its number, a slot holds its new record, what dies and is no such slot is free,
    -- and any other is as it was
    unfoldable pub record_after : ℕ → Node
    record_after i = cond (crossing E T x y i) (becomes slots (ref i)) (cond (filled i) (get_or news (slot_index i) free) (cond (dies (ref i)) free (T i)))

-- the whole table afterwards
unfoldable pub swapped : Edition → List Node → ℕ → ℕ → List ℕ → List Node
swapped E t x y roots = tabulate (length t) (record_after E (at t) (length t) x y roots)
