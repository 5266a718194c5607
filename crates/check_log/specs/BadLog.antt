-- 14: a log that no swap and no cut leaves. Its length is judged first, then its seal, then the entries that a seal counts. 15: the log is sealed.
-- docs/RULES.md, 2.2 and 7.
use Rattle.std.specs.Prelude.{ℕ, ◌+◌, ◌-◌, ◌*◌, ◌%◌, ◌≤◌, Bool, true, false, cond, not, ◌&&◌, ◌||◌, List, [], ◌∷◌, ◌++◌, ◌≡◌, eqb, ltb, leb, length, get_or}
use Rattle.std.proofs.Common.{eqb-true, ltb-false}
use Rattle.std.proofs.lemmas.Bool.{not-false}
use Rattle.lists.specs.First.{any}
use Rattle.lists.specs.Truth.{or_neither}
use Rattle.checks.specs.Stages.{Stage, stage, stage_at}
use Rattle.checks.specs.declared.Fault.TheVariants.{BadLog, SealedLog}
use Rattle.undo.specs.Log.{entry_size, most_log_records, log_records, kind_at, number_at, of_record, of_pair}
use Rattle.undo.specs.Log.{entries_held, seal_at, is_sealed, seal_count, counted}

-- not from 1 to 4,096 whole records
unfoldable pub bad_log_size : List ℕ → Bool
bad_log_size log = not (eqb (length log % entry_size) 0) || ltb (length log) entry_size || ltb (entry_size * most_log_records) (length log)

-- a byte that isn't zero; one of n
abbrev pub nonzero : List ℕ → ℕ → Bool
nonzero l i = not (eqb (get_or l i 0) 0)

unfoldable pub some_byte : List ℕ → ℕ → ℕ → Bool
some_byte l at n = any (λ j. nonzero l (at + j)) n

-- byte 0 of the seal is neither 0 nor the mark; or it is the mark, and the count is over the entries there are or another byte isn't zero
unfoldable pub bad_seal : List ℕ → Bool
bad_seal log =
    (nonzero log (seal_at log) && not (is_sealed log))
    || (is_sealed log && (nonzero log (seal_at log + 1) || some_byte log (seal_at log + 4) 12 || ltb (entries_held log) (seal_count log)))

-- byte 0, the kind, the last four bytes, and of a pair the bytes behind its two
unfoldable pub malformed : List ℕ → ℕ → Bool
malformed log k =
    nonzero log (entry_size * k) || ltb of_pair (kind_at log k) || some_byte log (entry_size * k + 12) 4
    || (eqb (kind_at log k) of_pair && some_byte log (entry_size * k + 6) 6)

-- the number is past a table of N records, or past the pairs of n levels
unfoldable pub past : List ℕ → ℕ → ℕ → ℕ → Bool
past log N n k = cond (eqb (kind_at log k) of_record) (leb N (number_at log k)) (leb (n - 1) (number_at log k))

-- an earlier entry is of the same record or pair
unfoldable pub repeats : List ℕ → ℕ → Bool
repeats log k = any (λ j. eqb (kind_at log j) (kind_at log k) && eqb (number_at log j) (number_at log k)) k

unfoldable pub bad_entry : List ℕ → ℕ → ℕ → ℕ → Bool
bad_entry log N n k = malformed log k || past log N n k || repeats log k

unfoldable pub entry_stages : List ℕ → ℕ → ℕ → List Stage
entry_stages log N n = stage BadLog (bad_entry log N n) (counted log) ∷ []

unfoldable pub log_stages : List ℕ → ℕ → ℕ → List Stage
log_stages log N n = stage_at BadLog 0 (bad_log_size log) ∷ stage_at BadLog (log_records log - 1) (bad_seal log) ∷ entry_stages log N n

-- a swap or a slice is asked for while the log is sealed: one that was cut waits for its recovery
unfoldable pub open_stages : List ℕ → ℕ → ℕ → List Stage
open_stages log N n = log_stages log N n ++ (stage_at SealedLog 0 (is_sealed log) ∷ [])

-- ---- what the sizes say

pub record LogSizes (log : List ℕ) : Type 0 where
  pub whole : length log % entry_size ≡ 0
  pub some : entry_size ≤ length log
  pub few : length log ≤ entry_size * most_log_records

pub log_sizes : (log : List ℕ) → bad_log_size log ≡ false → LogSizes log
unfolding bad_log_size
log_sizes log e =
    let w = or_neither (not (eqb (length log % entry_size) 0) || ltb (length log) entry_size) (ltb (entry_size * most_log_records) (length log)) e in
    let v = or_neither (not (eqb (length log % entry_size) 0)) (ltb (length log) entry_size) w.0 in
    record { whole = eqb-true _ 0 (not-false _ v.0); some = ltb-false _ _ v.1; few = ltb-false _ _ w.1 }

-- the count of a seal that isn't bad is within the log
pub seal_few : (log : List ℕ) → is_sealed log ≡ true → bad_seal log ≡ false → seal_count log ≤ entries_held log
unfolding bad_seal
seal_few log s e =
    let others = nonzero log (seal_at log + 1) || some_byte log (seal_at log + 4) 12 in
    let over = ltb (entries_held log) (seal_count log) in
    let w = or_neither (nonzero log (seal_at log) && not (is_sealed log)) (is_sealed log && (others || over)) e in
    let v : (others || over) ≡ false = rw s at w.1 in
    ltb-false _ _ (or_neither others over v).1
