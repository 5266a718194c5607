-- What stands in the way of a swap of levels k and k + 1: nothing, or that there is no room, or that the log is short.
-- docs/RULES.md, 4.4, 4.7 and 7.4.
use Rattle.std.specs.Prelude.{ℕ, Bool, ◌&&◌, List, ◌≡◌, leb}
use Rattle.std.proofs.Math.Bool.{true, false, cond}
use Rattle.std.proofs.Math.Path.{refl}
use Rattle.std.proofs.Common.{sym}
use Rattle.lists.specs.Apart.{apart}
use Rattle.lists.specs.Says.{true_false}
use Rattle.undo.specs.Log.{entries_needed}
use Rattle.swap_rules.specs.Swap.{x_at, y_at}
use Rattle.swap_preparing.specs.Table as in_pair
use Rattle.swap_preparing.specs.Table.{needed_in, free_in, fits_in}
use Rattle.swap_ways.specs.declared.Lack.{Lack}
use Rattle.swap_ways.specs.declared.Short.{Short}
use Rattle.swap_ways.specs.declared.Way.{Way}
use Rattle.swap_ways.specs.declared.Way.TheVariants as way

-- ---- a swap of levels k and k + 1 of the order o

-- the table after it, where there is room
abbrev pub table_after : List ℕ → List ℕ → List ℕ → ℕ → List ℕ
table_after t r o k = in_pair.table_after t r (x_at o k) (y_at o k)

-- the entries that it needs in the log: one for each record that changes, and one for the order
abbrev pub entries_for : List ℕ → List ℕ → List ℕ → ℕ → ℕ
entries_for t r o k = entries_needed t (table_after t r o k)

-- ---- what stands in its way: nothing, or that there is no room, or that the log is short

abbrev pub lack : ℕ → ℕ → ℕ → Lack
lack level needed free = record { level = level; needed = needed; free = free }

abbrev pub short : ℕ → ℕ → ℕ → Short
short level needed held = record { level = level; needed = needed; held = held }

-- there is room: with a log of so many entries
abbrev pub log_way : ℕ → ℕ → ℕ → Way
log_way k entries held = cond (leb entries held) way.Clear (way.LogShort (short k entries held))

-- the one answer that Swap, a slice and its judgement cite; of the log it asks only how many entries are held
unfoldable pub way_of : List ℕ → List ℕ → List ℕ → ℕ → ℕ → Way
way_of t r o held k =
    cond (fits_in t r (x_at o k) (y_at o k)) (log_way k (entries_for t r o k) held) (way.NoRoom (lack k (needed_in t (x_at o k) (y_at o k)) (free_in t)))

abbrev pub is_clear : Way → Bool
is_clear way.Clear = true
is_clear (way.NoRoom l) = false
is_clear (way.LogShort l) = false

-- ---- what the answer says of the room and of the log

module _ (t r o : List ℕ) (held k : ℕ) where
  abbrev fit : Bool
  fit = fits_in t r (x_at o k) (y_at o k)

  abbrev entries : ℕ
  entries = entries_for t r o k

  abbrev lacking : Lack
  lacking = lack k (needed_in t (x_at o k) (y_at o k)) (free_in t)

  abbrev lacking_log : Short
  lacking_log = short k entries held

  -- nothing stands in the way exactly where there is room and the log holds the entries
  pub way_fits : is_clear (way_of t r o held k) ≡ (fit && leb entries held)
  unfolding way_of
  way_fits = go fit (leb entries held)
    where
      go : (b c : Bool) → is_clear (cond b (cond c way.Clear (way.LogShort lacking_log)) (way.NoRoom lacking)) ≡ (b && c)
      go true true = refl
      go true false = refl
      go false c = refl

  pub way_clear : is_clear (way_of t r o held k) ≡ true → way_of t r o held k ≡ way.Clear
  way_clear e = go (way_of t r o held k) e
    where
      go : (w : Way) → is_clear w ≡ true → w ≡ way.Clear
      go way.Clear q = refl
      go (way.NoRoom l) q = true_false (sym q)
      go (way.LogShort l) q = true_false (sym q)

  pub way_lacks : (l : Lack) → way_of t r o held k ≡ way.NoRoom l → (fit ≡ false) × (l ≡ lacking)
  unfolding way_of
  way_lacks l e = go fit (leb entries held) e
    where
      go : (b c : Bool) → cond b (cond c way.Clear (way.LogShort lacking_log)) (way.NoRoom lacking) ≡ way.NoRoom l → (b ≡ false) × (l ≡ lacking)
      go true true q = apart (cc)
      go true false q = apart (cc)
      go false c q = (refl, (cc))

  pub way_short : (l : Short) → way_of t r o held k ≡ way.LogShort l → (fit ≡ true) × (leb entries held ≡ false) × (l ≡ lacking_log)
  unfolding way_of
  way_short l e = go fit (leb entries held) e
    where
      go : (b c : Bool) → cond b (cond c way.Clear (way.LogShort lacking_log)) (way.NoRoom lacking) ≡ way.LogShort l
          → (b ≡ true) × (c ≡ false) × (l ≡ lacking_log)
      go true true q = apart (cc)
      go true false q = (refl, refl, (cc))
      go false c q = apart (cc)
