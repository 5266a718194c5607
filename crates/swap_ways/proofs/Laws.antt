-- One law for each way out of a function, over plain variables: its premises are what is known there.
use Prim.Native.Nat.{ℕ, ◌+◌, ◌≤◌, ◌<◌}
use mathlib.Core.Bool.{Bool, true, false, cond}
use mathlib.Core.List.{List}
use mathlib.Core.Path.{◌≡◌, refl, ap, ap₂, sym, ◌∙◌}
use native.Mathlib.Omega.{arith}
use borrow.Author.Tests.{leb-true, le-leb}
use lib.Dec.{leb}
use lib.ListN.{length}
use lib.Seq.{take_all}
use Rattle.lists.specs.Count.{count_small}
use Rattle.lists.specs.Which.{which_length}
use Rattle.diagrams.specs.Layout.{records}
use Rattle.check_sizes.specs.Sizes.{TableSizes}
use Rattle.undo.specs.Log.{changed, entries_needed}
use Rattle.swap_rules.specs.Swap.{x_at, y_at}
use Rattle.swap_records.specs.declared.Pair.{Pair}
use Rattle.swap_reckoning.specs.declared.Counts.{Counts}
use Rattle.swap_preparing.specs.Table as in_pair
use Rattle.swap_preparing.specs.Table.{needed_in, free_in, fits_in}
use Rattle.swap_preparing.specs.Prepared.{CountsOf, Prepared, Preparing}
use Rattle.swap_ways.specs.Ways.{lack, table_after, entries_for, log_way, way_of, is_clear}
use Rattle.swap_ways.specs.Room.{clear_fits}
use Rattle.swap_ways.specs.Reckoning.{PairAt, way_by, Reckoned}
use Rattle.swap_ways.specs.declared.Way.{Way}
use Rattle.swap_ways.specs.declared.Way.TheVariants as way

-- a log with an entry for every record is never short
few_entries : (t u : List ℕ) → entries_needed t u ≤ records t + 1
unfolding entries_needed
few_entries t u = omega (arith, which_length (changed t u) (records t), count_small (changed t u) (records t))

log_clears : (k entries held : ℕ) → entries ≤ held → way.Clear ≡ log_way k entries held
log_clears k entries held h = rw (le-leb entries held h)

-- ---- the reckoning of a swap

module _ {t r o : List ℕ} {k : ℕ} {p : Pair} (P : PairAt o k p) where
  pub preparing : TableSizes t r → Preparing t r p
  preparing z = record { sized = z; small_x = P.small_x; small_y = P.small_y }

  module _ {q : Counts} (C : CountsOf t r p q) where
    fits_is : leb q.needed q.slots ≡ fits_in t r (x_at o k) (y_at o k)
    fits_is = C.fit_is ∙ ap₂ (fits_in t r) P.is_x P.is_y

    lack_is : lack k q.needed q.free ≡ lack k (needed_in t (x_at o k) (y_at o k)) (free_in t)
    lack_is = ap₂ (lack k) (C.needed_is ∙ ap₂ (needed_in t) P.is_x P.is_y) C.free_is

    -- where there is room the log decides
    way_is : (held : ℕ) (log : Way) → (leb q.needed q.slots ≡ true → log ≡ log_way k (entries_for t r o k) held) → way_by k q log ≡ way_of t r o held k
    unfolding way_by way_of
    way_is held log f = rw (← fits_is, ← lack_is) (go (leb q.needed q.slots) f)
      where
        go : (b : Bool) → (b ≡ true → log ≡ log_way k (entries_for t r o k) held)
            → cond b log (way.NoRoom (lack k q.needed q.free)) ≡ cond b (log_way k (entries_for t r o k) held) (way.NoRoom (lack k q.needed q.free))
        go true f = f refl
        go false f = refl

    pub asked_room : (held : ℕ) {w : Way} → w ≡ way_by k q way.Clear → records t < held → w ≡ way_of t r o held k
    asked_room held e h =
        e ∙ way_is held way.Clear (λ b. log_clears k (entries_for t r o k) held (omega (arith, few_entries t (table_after t r o k))))

  pub asked : {q : Counts} {image : List ℕ} (held : ℕ) {w : Way} → Prepared t r p q image → w ≡ way_by k q way.Clear → records t < held
      → w ≡ way_of t r o held k
  asked held A = asked_room A.counts held

  pub reckoned : {q : Counts} {image : List ℕ} {held n : ℕ} {log w : Way} → Prepared t r p q image → n ≡ entries_needed t image → log ≡ log_way k n held
      → w ≡ way_by k q log → (start : List ℕ) → length image ≡ length start → length start ≡ length t → Reckoned t r o held k w image
  reckoned {q} {image} {held} {n} {log} {w} A counted by e start long same = record { answer = answer; image_is = λ c. image_after (fit c) }
    where
      image_after : leb q.needed q.slots ≡ true → image ≡ table_after t r o k
      image_after b =
          sym (take_all (length t) image (omega arith))
          ∙ A.table (leb-true q.needed q.slots b) (omega arith)
          ∙ ap₂ (in_pair.table_after t r) P.is_x P.is_y

      answer : w ≡ way_of t r o held k
      answer =
          e ∙ way_is A.counts held log (λ b. by ∙ ap (λ (m : ℕ). log_way k m held) (counted ∙ ap (entries_needed t) (image_after b)))

      fit : is_clear w ≡ true → leb q.needed q.slots ≡ true
      fit c = fits_is A.counts ∙ clear_fits t r o held k (ap is_clear (sym answer) ∙ c)

pub reckoned_way : {t r o image : List ℕ} {held k : ℕ} {w : Way} → Reckoned t r o held k w image → w ≡ way_of t r o held k
reckoned_way R = R.answer
