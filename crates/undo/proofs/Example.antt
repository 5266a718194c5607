-- A worked example, by computation: three levels, two records of which the second changes, and an empty log of three records.
use Rattle.std.specs.Prelude.{ℕ, List, [], ◌∷◌, ◌++◌, ◌≡◌, refl, length, take, replicate}
use Rattle.std.proofs.Common.{arith}
use Rattle.lists.specs.Which.{which}
use Rattle.lists.specs.Each.{each}
use Rattle.lists.specs.Tabulate.{tabulate}
use Rattle.orders.specs.Exchange.{exchange}
use Rattle.undo.specs.Survives.{Ready}
use Rattle.undo.specs.Stores.{State, put, puts, run}
use Rattle.undo.specs.Log.{changed, entries_of, entries_needed, entry_at, entry_stores, counted, recovered, swap_cut}
use Rattle.undo.specs.Log.{logging, sealing, putting, swap_stores, recovery_stores}

old : List ℕ
old = 0 ∷ 0 ∷ 1 ∷ 0 ∷ 3 ∷ 0 ∷ 0 ∷ 0 ∷ 1 ∷ 0 ∷ 0 ∷ 0 ∷ 1 ∷ 0 ∷ 0 ∷ 0 ∷ []

new : List ℕ
new = 0 ∷ 0 ∷ 1 ∷ 0 ∷ 3 ∷ 0 ∷ 0 ∷ 0 ∷ 2 ∷ 0 ∷ 1 ∷ 0 ∷ 0 ∷ 0 ∷ 0 ∷ 0 ∷ []

before : State
before = record { table = old; order = 0 ∷ 1 ∷ 2 ∷ []; log = replicate 32 7 ++ replicate 16 0 }

after : State
after =
    record {
      table = new;
      order = 0 ∷ 2 ∷ 1 ∷ [];
      log =
          0 ∷ 0 ∷ 1 ∷ 0 ∷ 1 ∷ 0 ∷ 0 ∷ 0 ∷ 1 ∷ 0 ∷ 0 ∷ 0 ∷ 0 ∷ 0 ∷ 0 ∷ 0
          ∷ 0 ∷ 1 ∷ 1 ∷ 0 ∷ 1 ∷ 2 ∷ 0 ∷ 0 ∷ 0 ∷ 0 ∷ 0 ∷ 0 ∷ 0 ∷ 0 ∷ 0 ∷ 0
          ∷ 0 ∷ 0 ∷ 2 ∷ 0 ∷ replicate 12 0;
    }

needed : entries_needed before.table new ≡ 2
unfolding old new before entries_needed which changed
needed = refl

stores : length (swap_stores before new 1) ≡ 59
unfolding old new before entries_needed which changed exchange entries_of each run entry_stores logging sealing putting swap_stores
stores = refl

whole : swap_cut 59 before new 1 ≡ after
unfolding old new before after entries_needed which changed exchange entries_of each run entry_stores logging sealing putting swap_stores put puts
whole = refl

-- cut after 52 stores: four bytes of the second record are new, and a recovery puts two entries back
cut : (swap_cut 52 before new 1).table ≡ take 12 new ++ (1 ∷ 0 ∷ 0 ∷ 0 ∷ [])
unfolding old new before entries_needed which changed exchange entries_of each run entry_stores logging sealing putting swap_stores put puts
cut = refl

back : (recovered (swap_cut 52 before new 1)).table ≡ old
unfolding old new before entries_needed which changed exchange entries_of each run entry_stores logging sealing putting swap_stores put puts
    recovery_stores tabulate entry_at
back = refl

answer : counted (swap_cut 52 before new 1).log ≡ 2
unfolding old new before entries_needed which changed exchange entries_of each run entry_stores logging sealing putting swap_stores put puts
answer = refl

-- the theorems of Survives hold of it
ready : Ready before new 1
unfolding old new before entries_needed which changed
ready = record { long = refl; whole = refl; level = omega arith; room = omega arith; empty = refl }
