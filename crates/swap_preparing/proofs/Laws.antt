-- What the reckoning and the image hold at each way out, over plain variables.
use Prim.Native.Nat.{ℕ, ◌+◌, ◌≤◌, ◌<◌}
use mathlib.Core.List.{List}
use mathlib.Core.Path.{◌≡◌, ap, ap₂, sym, ◌∙◌}
use native.Mathlib.Omega.{arith}
use borrow.Author.Tests.{le-leb}
use lib.Dec.{leb}
use lib.ListN.{length}
use Rattle.diagrams.specs.Edition.{plain}
use Rattle.diagrams.specs.Layout.{records}
use Rattle.diagrams.specs.Node.{at}
use Rattle.diagrams.specs.Decode.{decode}
use Rattle.diagrams.specs.Lookup.{roots_of}
use Rattle.swap_rules.proofs.Room.{slots_count}
use Rattle.swap_records.specs.declared.Pair.{Pair}
use Rattle.swap_names.specs.Slots.{SlotsListed, slots_inside}
use Rattle.swap_records.specs.Listed.{FreeListed}
use Rattle.swap_reckoning.specs.Work.{with_turns, AllSlots}
use Rattle.swap_reckoning.specs.Reckoned.{Reckoned, needed_is, free_is}
use Rattle.swap_reckoning.specs.declared.Work.{Work}
use Rattle.swap_reckoning.specs.declared.Counts.{Counts}
use Rattle.swap_result.specs.Image.{SlotsFor, Fillable, Filled, free_first}
use Rattle.swap_preparing.specs.Table.{needed_in, free_in, dying_in, fits_in, table_after, fit_by_slots}
use Rattle.swap_preparing.specs.Prepared.{CountsOf, Preparing, Prepared}

-- what is counted of the lists
abbrev pub CountedIn : Work → ℕ → Counts → Type 0
CountedIn w free q = (q.needed ≡ length w.news) × (q.free ≡ free) × (q.slots ≡ length w.slots)

-- ---- room

-- all slots are listed, so that there is room exactly where needed is not above them
listed_fit : {t r : List ℕ} {p : Pair} {slots : List ℕ} {k n : ℕ} → SlotsListed t r p slots → k ≡ length slots → n ≡ needed_in t p.x.0 p.y.0
    → leb n k ≡ fits_in t r p.x.0 p.y.0
listed_fit {t} {r} {p} S k e =
    ap₂ leb e (k ∙ ap length S.is ∙ slots_count plain (at (decode t)) (records t) p.x.0 p.y.0 (roots_of r))
    ∙ sym (fit_by_slots t r p.x.0 p.y.0)

-- the free ones suffice
free_fit : (t r : List ℕ) (p : Pair) {n f : ℕ} → n ≡ needed_in t p.x.0 p.y.0 → f ≡ free_in t → n ≤ f → leb n f ≡ fits_in t r p.x.0 p.y.0
free_fit t r p {n} {f} e g h = le-leb n f h ∙ sym (fit_by_slots t r p.x.0 p.y.0 ∙ le-leb needed slots (omega arith))
  where
    needed : ℕ
    needed = needed_in t p.x.0 p.y.0

    slots : ℕ
    slots = free_in t + dying_in t r p.x.0 p.y.0

-- ---- a swap that is asked for

module _ (t : List ℕ) (w : Work) {w' : Work} {free : ℕ} (F : FreeListed t w.slots)
    (same : w' ≡ with_turns w w'.news w'.kept) (frees : free ≡ length w'.slots) where
  freely : free ≡ free_in t
  freely = frees ∙ ap length (ap (λ z. z.slots) same) ∙ free_is t F

  -- the lists are then counted: as they are, or once what dies is added
  module _ {r : List ℕ} {p : Pair} (R : Reckoned t p w') {counted : Work} {q : Counts} where
    pub free_suffices : counted ≡ w' → CountedIn counted free q → length w'.news ≤ free → CountsOf t r p q
    free_suffices e c' h = let c : CountedIn w' free q = rw e at c' in record {
      needed_is = c.0 ∙ needed_is R;
      free_is = c.1 ∙ freely;
      fit_is = ap₂ leb c.0 (c.2 ∙ sym frees) ∙ free_fit t r p (needed_is R) freely h;
    }

    pub dying_counts : {w'' : Work} → counted ≡ w'' → AllSlots t r p w' w'' → CountedIn counted free q → CountsOf t r p q
    dying_counts {w''} f A c' =
        let c : CountedIn w'' free q = rw f at c' in
        let e : length w''.news ≡ length w'.news = ap (λ z. length z.news) A.same in
        record {
          needed_is = c.0 ∙ e ∙ needed_is R;
          free_is = c.1 ∙ freely;
          fit_is = listed_fit A.listed c.2 (c.0 ∙ e ∙ needed_is R);
        }

-- ---- a swap that is to be made

module _ {t r : List ℕ} {p : Pair} (w w' : Work) {w'' : Work} {free : ℕ} {q : Counts} (F : FreeListed t w.slots) (frees : free ≡ length w.slots)
    (A : AllSlots t r p w w') (R : Reckoned t p w'') (same : w'' ≡ with_turns w' w''.news w''.kept) (c : CountedIn w'' free q) where
  listed : SlotsListed t r p w''.slots
  listed = rw (ap (λ z. z.slots) same) A.listed

  counted : CountsOf t r p q
  counted = record { needed_is = c.0 ∙ needed_is R; free_is = c.1 ∙ frees ∙ free_is t F; fit_is = listed_fit listed c.2 (c.0 ∙ needed_is R) }

  slots_for : SlotsFor t r p w''.slots free
  slots_for = record { listed = listed; frees = frees ∙ ap length F.is }

  pub fillable : {image : List ℕ} → Preparing t r p → q.needed ≤ q.slots → length t ≤ length image → Fillable t p w'' free image
  fillable a h l = record {
    whole_records = a.sized.whole_records;
    small_x = a.small_x;
    small_y = a.small_y;
    reckoned = R;
    long = l;
    inside = slots_inside listed;
    free_among = free_first slots_for;
    fit = omega (arith, c.0, c.2);
  }

  pub prepared : {image : List ℕ} → Filled t p w''.slots free image → Prepared t r p q image
  unfolding table_after
  prepared f = record { counts = counted; table = λ h l. f.is r slots_for }

  pub no_room : {image : List ℕ} → q.slots < q.needed → Prepared t r p q image
  no_room h = record { counts = counted; table = λ n l. absurd (omega arith) }

pub no_image : {t r : List ℕ} {p : Pair} {q : Counts} {image : List ℕ} → CountsOf t r p q → length image < length t → Prepared t r p q image
no_image c h = record { counts = c; table = λ n l. absurd (omega arith) }
