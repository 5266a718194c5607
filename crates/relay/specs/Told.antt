-- The outcome of each call: what it writes to the lent list and returns, and what it leaves in the buffers that it may change.
-- docs/RULES.md, 6.
use Rattle.std.specs.Prelude.{ℕ, cond, ◌||◌, List, ◌≡◌, ltb, Float, length, set, Ok, Err}
use Rattle.checks.specs.Check as check
use Rattle.reading.specs.Read as read
use Rattle.parts.specs.Part as part
use Rattle.showing.specs.Show as show
use Rattle.labels.specs.Label as label
use Rattle.counting.specs.Count as count
use Rattle.counting.specs.Count.{CountAnswer}
use Rattle.undo.specs.Stores.{State}
use Rattle.recovery.specs.Recover as recover
use Rattle.swaps.specs.Outcome as swap
use Rattle.runs.specs.OneSwap.{plain_swap}
use Rattle.runs.specs.Run as run
use Rattle.relay_numbers.specs.Written.{Written, wrote, written, Told, told}

-- ---- calls that change nothing but the list

abbrev pub CheckTold : List ℕ → List ℕ → List ℕ → List ℕ → Written → Type 0
CheckTold t r o list w = w ≡ written list (check.numbers (check.check_of t r o))

abbrev pub ReadTold : List ℕ → List ℕ → List ℕ → ℕ → List ℕ → List ℕ → Written → Type 0
ReadTold t r o position inputs list w = w ≡ written list (read.numbers (read.read_of t r o position inputs))

abbrev pub ShowTold : List ℕ → List ℕ → List ℕ → ℕ → List ℕ → Written → Type 0
ShowTold t r o position list w = w ≡ written list (part.numbers (show.part_of t r o position))

abbrev pub LabelTold : List ℕ → List ℕ → ℕ → List ℕ → Written → Type 0
LabelTold s f v list w = w ≡ written list (label.numbers (label.label_of s f v))

-- ---- a count has a place of its own, and so has its share: the list, the places for the count and those for the share, afterwards

pub record ToldCount : Type 0 where
  pub written : Written
  pub counts : List ℕ
  pub shares : List Float

-- a count in the first of its places, its share likewise; a refusal leaves them as they are
abbrev pub place_count : CountAnswer → List ℕ → List ℕ
place_count (Ok trips) counts = set counts 0 trips.count
place_count (Err w) counts = counts

abbrev pub place_share : CountAnswer → List Float → List Float
place_share (Ok trips) shares = set shares 0 trips.share
place_share (Err w) shares = shares

-- nothing where there is no place for the longest answer, which has 2 numbers, for a count or for a share
unfoldable pub told_count : List ℕ → List ℕ → List Float → CountAnswer → ToldCount
told_count list counts shares a =
    cond ((ltb (length list) 2 || ltb (length counts) 1) || ltb (length shares) 1)
    (record { written = wrote 0 list; counts = counts; shares = shares })
    (record { written = written list (count.numbers a); counts = place_count a counts; shares = place_share a shares })

abbrev pub CountTold : List ℕ → List ℕ → List ℕ → ℕ → List ℕ → List Float → List ℕ → Written → List ℕ → List Float → Type 0
CountTold t r o position counts shares list w counts' shares' =
    record { written = w; counts = counts'; shares = shares' } ≡ told_count list counts shares (count.count_of t r o position)

-- ---- calls that may change the table, the order and the log; their longest answers have 4, 6 and 2 numbers

unfoldable pub told_swap : List ℕ → State → List ℕ → ℕ → Told
told_swap list s r k = let w = swap.swap_of s r k in told 4 list s (swap.numbers w.answer) w.state

unfoldable pub told_run : List ℕ → State → List ℕ → List ℕ → ℕ → ℕ → Told
told_run list s r g plan budget = let w = run.run_of plain_swap plan s r g budget in told 6 list s (run.numbers w.answer) w.state

unfoldable pub told_recover : List ℕ → State → Told
told_recover list s = let w = recover.recover_of s in told 2 list s (recover.numbers w.answer) w.state

abbrev pub SwapTold : State → List ℕ → ℕ → List ℕ → Written → State → Type 0
SwapTold s r k list w s' = record { written = w; state = s' } ≡ told_swap list s r k

abbrev pub RunTold : State → List ℕ → List ℕ → ℕ → ℕ → List ℕ → Written → State → Type 0
RunTold s r g plan budget list w s' = record { written = w; state = s' } ≡ told_run list s r g plan budget

abbrev pub RecoverTold : State → List ℕ → Written → State → Type 0
RecoverTold s list w s' = record { written = w; state = s' } ≡ told_recover list s
