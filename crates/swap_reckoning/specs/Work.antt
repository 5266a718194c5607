-- The lists of a swap: without entries, and with some of them changed.
use Rattle.std.specs.Prelude.{ℕ, List, [], ◌≡◌}
use Rattle.swap_records.specs.declared.Pair.{Pair}
use Rattle.swap_records.specs.declared.children.Children.{Children}
use Rattle.swap_names.specs.Slots.{SlotsListed}
use Rattle.swap_reckoning.specs.declared.Work.{Work}

abbrev pub no_work : Work
no_work = record { crossing = []; standing = []; slots = []; news = []; kept = [] }

abbrev pub with_slots : Work → List ℕ → Work
with_slots w slots = record { crossing = w.crossing; standing = w.standing; slots = slots; news = w.news; kept = w.kept }

abbrev pub with_turns : Work → List Children → List Children → Work
with_turns w news kept = record { crossing = w.crossing; standing = w.standing; slots = w.slots; news = news; kept = kept }

-- the slots are the free records and those that die; no other list is changed
pub record AllSlots (t r : List ℕ) (p : Pair) (w w' : Work) : Type 0 where
  pub listed : SlotsListed t r p w'.slots
  pub same : w' ≡ with_slots w w'.slots
