-- The lists of a swap: the numbers of the records that pass a test, rising.
use Rattle.std.specs.Prelude.{ℕ, ◌+◌, ◌≤◌, ◌<◌, Bool, cond, List, [], ◌∷◌, ◌++◌, ◌≡◌, length, get_or}
use Rattle.std.proofs.Common.{sym, ◌∙◌, ap, arith, rules, eqb-true, add-one, append_assoc, append-nil, length-append}
use Rattle.std.proofs.Math.Bool.{true, false}
use Rattle.std.proofs.Math.Path.{refl}
use Rattle.lists.specs.Count.{count, count_small}
use Rattle.lists.specs.Ranks.{which_at}
use Rattle.lists.specs.Says.{true_false}
use Rattle.lists.specs.Which.{which, which_length}
use Rattle.diagrams.specs.Layout.{most_records, records, variable_at, is_free, InTable}
use Rattle.diagrams.specs.Node.{ref}
use Rattle.diagrams.specs.Lookup.{lookup, free_of}
use Rattle.swap_rules.specs.Record.{is_of}
use Rattle.swap_rules.specs.Swap.{crosses}
use Rattle.swap_records.specs.Kinds.{crosses_at, stands_at}
use Rattle.swap_records.specs.declared.Pair.{Pair}

-- a list of the entries that were there before, and after them of the indices below n that pass
pub record Adds (before : List ℕ) (p : ℕ → Bool) (n : ℕ) (list : List ℕ) : Type 0 where
  pub is : list ≡ before ++ which p n

-- of these alone
abbrev pub Lists : (ℕ → Bool) → ℕ → List ℕ → Type 0
Lists p n list = Adds [] p n list

-- ---- the free records; of x, those that cross and those that stand

abbrev pub FreeListed : List ℕ → List ℕ → Type 0
FreeListed t list = Lists (is_free t) (records t) list

abbrev pub CrossingListed : List ℕ → Pair → List ℕ → Type 0
CrossingListed t p list = Lists (crosses_at t p.x.0 p.y.0) (records t) list

abbrev pub StandingListed : List ℕ → Pair → List ℕ → Type 0
StandingListed t p list = Lists (stands_at t p.x.0 p.y.0) (records t) list

-- the x records below i, split
pub record Splits (t : List ℕ) (p : Pair) (i : ℕ) (crossing standing : List ℕ) : Type 0 where
  pub few : records t ≤ most_records
  pub crossing_are : Lists (crosses_at t p.x.0 p.y.0) i crossing
  pub standing_are : Lists (stands_at t p.x.0 p.y.0) i standing

-- ---- a loop over the records that lists those that pass: it has come to record i

module _ {before : List ℕ} {p : ℕ → Bool} {list : List ℕ} where
  pub adds_begins : list ≡ before → Adds before p 0 list
  unfolding which
  adds_begins e = record { is = e ∙ sym (append-nil before) }

  module _ {i : ℕ} (a : Adds before p i list) where
    pub adds_goes : {b : Bool} {list' : List ℕ} → b ≡ p i → list' ≡ list ++ cond b (i ∷ []) [] → Adds before p (i + 1) list'
    unfolding which
    adds_goes e q = record { is = q ∙ rw (a.is, e, add-one) (append_assoc before (which p i) (cond (p i) (i ∷ []) [])) }

    -- one that fails is passed over
    pub adds_passes : p i ≡ false → Adds before p (i + 1) list
    unfolding which
    adds_passes e = record { is = a.is ∙ rw (add-one, e) (ap (λ l. before ++ l) (sym (append-nil (which p i)))) }

    pub adds_counts : length list ≡ length before + count p i
    adds_counts = ap length a.is ∙ length-append before (which p i) ∙ ap (λ n. length before + n) (which_length p i)

    pub adds_ends : {n : ℕ} → i ≡ n → Adds before p n list
    adds_ends e = rw (← e) a

-- there is room for the next entry
pub lists_room : {p : ℕ → Bool} {i n : ℕ} {list : List ℕ} → Lists p i list → i < n → n ≤ most_records → length list < most_records
lists_room {p} {i} a l few = omega (arith, adds_counts a, count_small p i)

pub ruleset listing = (adds_begins, adds_goes, adds_ends, lists_room, rules)

-- ---- lists of numbers of records of the table

pub record Inside (t list : List ℕ) : Type 0 where
  pub at : (k : ℕ) → k < length list → InTable t (get_or list k 0)

-- and of used ones
pub record InUse (t list : List ℕ) : Type 0 where
  pub inside : Inside t list
  pub used : (k : ℕ) → k < length list → is_free t (get_or list k 0) ≡ false

module _ {t list : List ℕ} {k : ℕ} where
  -- entry k is i
  pub entry_inside : {i : ℕ} → Inside t list → k < length list → i ≡ get_or list k 0 → InTable t i
  entry_inside s l e = rw e (s.at k l)

  pub entry_used : {i : ℕ} → InUse t list → k < length list → i ≡ get_or list k 0 → is_free t i ≡ false
  entry_used s l e = rw e (s.used k l)

pub ruleset entries = (entry_inside, entry_used, rules)

-- ---- a list of the records that pass

module _ {p : ℕ → Bool} {n : ℕ} {list : List ℕ} (a : Lists p n list) where
  pub entry_below : (j : ℕ) → j < length list → get_or list j 0 < n
  entry_below j h = rw a.is ((which_at p n j (rw a.is at h)).0)

  pub entry_passes : (j : ℕ) → j < length list → p (get_or list j 0) ≡ true
  entry_passes j h = rw a.is ((which_at p n j (rw a.is at h)).1)

  pub entries_few : length list ≤ n
  entries_few = omega (arith, adds_counts a, count_small p n)

pub inside_of : {t list : List ℕ} {p : ℕ → Bool} → Lists p (records t) list → Inside t list
inside_of a = record { at = λ j h. omega (arith, entry_below a j h) }

-- a crossing record is used
module _ (t : List ℕ) (x y i : ℕ) where
  crossing_not : (f : Bool) → is_free t i ≡ f → crosses (lookup t) x y (ref i) ≡ true → i < records t → f ≡ false
  unfolding crosses is_of
  crossing_not true q e l = let z : false ≡ true = rw (free_of t i l (eqb-true (variable_at t i) 255 q)) at e in true_false (sym z)
  crossing_not false q e l = refl

  crossing_used : crosses (lookup t) x y (ref i) ≡ true → i < records t → is_free t i ≡ false
  crossing_used e l = crossing_not (is_free t i) refl e l

pub in_use : (t : List ℕ) (p : Pair) {list : List ℕ} → CrossingListed t p list → InUse t list
in_use t p {list} c =
    record { inside = inside_of c; used = λ j h. crossing_used t p.x.0 p.y.0 (get_or list j 0) (entry_passes c j h) (entry_below c j h) }
