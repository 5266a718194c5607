-- What a walk along a chain tells of record i.
use Rattle.std.specs.Prelude.{ℕ, ◌+◌, ◌≤◌, ◌<◌, List, ◌≡◌, Bool, true, false, cond, Some, None, refl}
use Rattle.std.specs.Option.{is_some}
use Rattle.lists.specs.First.{first, any}
use Rattle.lists.specs.Found.{found}
use Rattle.diagrams.specs.Layout.{most_records, InTable}
use Rattle.chains.specs.Chains.{Chained}
use Rattle.check_repeats.specs.Repeats.{same_record, repeats}
use Rattle.check_repeats.specs.Buckets.{bucket_at}
use Rattle.check_repeats.specs.declared.chained.Walked.{Walked}

-- record i is next: those before it are chained
pub record Next (t : List ℕ) (i : ℕ) (head link : List ℕ) : Type 0 where
  pub inside : InTable t i
  pub few : i < most_records
  pub chained : Chained (bucket_at t) most_records i head link

-- the first record before i that is the same, found in at most i steps
pub record Walks (t : List ℕ) (i : ℕ) (w : Walked) : Type 0 where
  pub finds : w.found ≡ found (same_record t i) i
  pub short : w.met ≤ i

-- record i is a repeat exactly where one is found
pub record Looks (t : List ℕ) (i : ℕ) (w : Walked) : Type 0 where
  pub tells : is_some w.found ≡ repeats t i
  pub short : w.met ≤ i

-- and then it is an entry too
abbrev pub Enters : List ℕ → ℕ → Walked → List ℕ → List ℕ → Type 0
Enters t i w head link = Looks t i w × Chained (bucket_at t) most_records (i + 1) head link

-- something is found exactly where the test holds somewhere
pub found_some : (p : ℕ → Bool) (n : ℕ) → is_some (found p n) ≡ any p n
unfolding found
found_some p n = go (any p n)
  where
    go : (b : Bool) → is_some (cond b (Some (first p n)) None) ≡ b
    go true = refl
    go false = refl
