-- Request L2: how many combinations trip, and their share, which are told of a root and don't move with the records.
--
-- `count_of` is the outcome that Count's contract cites; `trips` is the number of combinations under which Read's value of the root is 1.
use Rattle.std.specs.Prelude.{ℕ, ◌^◌, Bool, false, List, ◌≡◌, Float, length, Ok, Err}
use Rattle.std.specs.Float.Ieee.Exact.{HasValue}
use Rattle.lists.specs.Combinations.{how_many, all_or_none}
use Rattle.count_shares.specs.Share.{quotient}
use Rattle.checks.specs.Stages.{refusal, FailsFirst}
use Rattle.checks.specs.declared.Fault.{Fault}
use Rattle.reading.specs.Read.{read_of}
use Rattle.reading.specs.Theorems.{GoodInputs}
use Rattle.counting.specs.Count as counts
use Rattle.counting.specs.Count.{CountAnswer, count_stages, count_of, CountOutcome}
use Rattle.counting.proofs.Theorems as count
use Rattle.counting.specs.Theorems.{Counts, answers_one}
use Rattle.undo.specs.Stores.{State}
use Rattle.demands.specs.Exactly.{Exactly}
use Rattle.demands.specs.Operations.{Operation, leaves_all, operations_same}
use Rattle.demands.specs.SameCount.{count_same}

module _ (t r o : List ℕ) (position : ℕ) where
  -- refused with k at p exactly where check k fails first, at p
  pub count_refused : (k : Fault) (p : ℕ) → Exactly (count_of t r o position ≡ Err (refusal k p)) (FailsFirst (count_stages t r o position) k p)
  count_refused k p = record { wherever = count.count_refuses t r o position k p; only = count.count_refuses_only t r o position k p }

  pub count_one : {a b : CountAnswer} → CountOutcome t r o position a → CountOutcome t r o position b → a ≡ b
  count_one = count.count_one t r o position

  module _ (c : ℕ) (s : Float) where
    -- a count exactly for a table that can be used and a root that is there: c is `trips`, s its share of 2 ^ n
    pub counted : Exactly (count_of t r o position ≡ counts.counted c s) (Counts t r o position c s)
    counted = record { wherever = count.counts_if t r o position; only = count.counts_only t r o position }

    module _ (told : count_of t r o position ≡ counts.counted c s) where
      -- c is the number of combinations of n inputs under which Read answers 1
      pub read_count : c ≡ how_many (length o) (λ inputs. answers_one (read_of t r o position inputs))
      read_count = count.counts_reads t r o position (count.counts_only t r o position told)

      -- the share is exactly c / 2 ^ n: finite, not below 0, nothing rounded
      pub share_value : HasValue s false c (2 ^ length o)
      share_value = count.share_is_exact t r o position (count.counts_only t r o position told)

      -- and the double that dividing c by 2 ^ n gives
      pub share_divided : s ≡ quotient c (length o)
      share_divided = count.share_is_quotient t r o position (count.counts_only t r o position told)

      -- 0 (b false) exactly where Read answers 0 under every combination, 2 ^ n (b true) exactly where it answers 1 under every one
      pub uniform : (b : Bool) → Exactly (c ≡ all_or_none b (length o))
          ((inputs : List ℕ) → GoodInputs o inputs → read_of t r o position inputs ≡ Ok b)
      uniform b =
          let w = count.counts_only t r o position told in
          record { wherever = count.uniform_if t r o position w b; only = count.uniform_only t r o position w b }

-- no list of swaps and slices changes what Count answers of a root, its count and its share; of any bytes, whatever each operation answers
pub operations_count : (r : List ℕ) (position : ℕ) (list : List Operation) (s : State)
    → count_of (leaves_all r list s).table r (leaves_all r list s).order position ≡ count_of s.table r s.order position
operations_count r position list s = operations_same r (λ t o. count_of t r o position) (λ t o t' o' a. count_same a position) list s
