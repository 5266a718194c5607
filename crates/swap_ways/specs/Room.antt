-- What stands in the way, and when: no room where needed is above free plus dying; log short where there is room, but fewer entries are held than needed.
use Rattle.std.specs.Prelude.{ℕ, ◌+◌, ◌≤◌, ◌<◌, Bool, true, ◌&&◌, List, ◌≡◌, leb}
use Rattle.std.proofs.Common.{sym, ◌∙◌}
use borrow.Author.Tests.{leb-true, leb-false, le-leb, lt-leb}
use Rattle.lists.specs.Truth.{and_left, and_right}
use Rattle.swap_rules.specs.Swap.{x_at, y_at}
use Rattle.swap_preparing.specs.Table.{needed_in, free_in, fits_in, dying_in, fit_by_slots}
use Rattle.swap_ways.specs.Ways.{lack, short, entries_for, way_of, is_clear, way_fits, way_lacks, way_short}
use Rattle.swap_ways.specs.declared.Lack.{Lack}
use Rattle.swap_ways.specs.declared.Short.{Short}
use Rattle.swap_ways.specs.declared.Way.TheVariants as way

-- what the swap of levels k and k + 1 needs
abbrev pub Needed : List ℕ → List ℕ → ℕ → ℕ
Needed t o k = needed_in t (x_at o k) (y_at o k)

-- and how many records die in it
abbrev pub Dying : List ℕ → List ℕ → List ℕ → ℕ → ℕ
Dying t r o k = dying_in t r (x_at o k) (y_at o k)

-- there is room
abbrev pub HasRoom : List ℕ → List ℕ → List ℕ → ℕ → Type 0
HasRoom t r o k = Needed t o k ≤ free_in t + Dying t r o k

-- there is none
abbrev pub LacksRoom : List ℕ → List ℕ → List ℕ → ℕ → Type 0
LacksRoom t r o k = free_in t + Dying t r o k < Needed t o k

module _ (t r o : List ℕ) (held k : ℕ) where
  abbrev fit : Bool
  fit = fits_in t r (x_at o k) (y_at o k)

  by_slots : fit ≡ leb (Needed t o k) (free_in t + Dying t r o k)
  by_slots = fit_by_slots t r (x_at o k) (y_at o k)

  roomy : HasRoom t r o k → fit ≡ true
  roomy h = by_slots ∙ le-leb (Needed t o k) (free_in t + Dying t r o k) h

  room_is : fit ≡ true → HasRoom t r o k
  room_is e = leb-true (Needed t o k) (free_in t + Dying t r o k) (sym by_slots ∙ e)

  -- nothing stands in the way exactly where there is room and the log holds the entries
  both : is_clear (way_of t r o held k) ≡ true → (fit && leb (entries_for t r o k) held) ≡ true
  both e = sym (way_fits t r o held k) ∙ e

  pub clear_fits : is_clear (way_of t r o held k) ≡ true → fit ≡ true
  clear_fits e = and_left fit (leb (entries_for t r o k) held) (both e)

  pub clear_then : is_clear (way_of t r o held k) ≡ true → HasRoom t r o k × (entries_for t r o k ≤ held)
  clear_then e = (room_is (clear_fits e), leb-true (entries_for t r o k) held (and_right fit (leb (entries_for t r o k) held) (both e)))

  pub clear_if_fits : HasRoom t r o k → entries_for t r o k ≤ held → way_of t r o held k ≡ way.Clear
  unfolding way_of
  clear_if_fits h l = rw (roomy h, le-leb (entries_for t r o k) held l)

  pub lacks_if : LacksRoom t r o k → way_of t r o held k ≡ way.NoRoom (lack k (Needed t o k) (free_in t))
  unfolding way_of
  lacks_if h = rw (by_slots ∙ lt-leb (Needed t o k) (free_in t + Dying t r o k) h)

  pub lacks_then : (l : Lack) → way_of t r o held k ≡ way.NoRoom l → LacksRoom t r o k × (l ≡ lack k (Needed t o k) (free_in t))
  lacks_then l e = let (f, q) = way_lacks t r o held k l e in (leb-false (Needed t o k) (free_in t + Dying t r o k) (sym by_slots ∙ f), q)

  -- log short exactly where there is room, but more entries are needed than are held
  pub short_if : HasRoom t r o k → held < entries_for t r o k → way_of t r o held k ≡ way.LogShort (short k (entries_for t r o k) held)
  unfolding way_of
  short_if h l = rw (roomy h, lt-leb (entries_for t r o k) held l)

  pub short_then : (l : Short) → way_of t r o held k ≡ way.LogShort l
      → HasRoom t r o k × (held < entries_for t r o k) × (l ≡ short k (entries_for t r o k) held)
  short_then l e = let (f, g, q) = way_short t r o held k l e in (room_is f, leb-false (entries_for t r o k) held g, q)
