-- Laws of telling an answer, over plain variables.
use Prim.Native.Nat.{ℕ, ◌≤◌, ◌<◌}
use mathlib.Core.Bool.{Bool, true, ◌||◌}
use mathlib.Core.List.{List, [], ◌∷◌}
use mathlib.Core.Path.{◌≡◌, refl, ap, sym, ◌∙◌, subst}
use native.Mathlib.Omega.{arith}
use borrow.Author.Rules.{rules}
use borrow.Author.Tests.{lt-ltb, le-ltb}
use lib.Dec.{ltb}
use lib.Ieee.{Float}
use lib.ListN.{length, set}
use Rattle.lists.specs.Truth.{or_true}
use Rattle.parts.specs.declared.Part.{Part}
use Rattle.std.specs.Prelude.{Result, Ok, Err}
use Rattle.checks.specs.Check as check
use Rattle.checks.specs.Check.{CheckAnswer, CheckOutcome}
use Rattle.checks.specs.Stages.{number}
use Rattle.checks.proofs.Theorems.{used_small, check_place_small}
use Rattle.checks.specs.declared.Refusal.{Refusal}
use Rattle.reading.specs.Read.{ReadAnswer, ReadOutcome}
use Rattle.showing.specs.Show.{part_of}
use Rattle.showing.proofs.Parts.{part_inside, part_small}
use Rattle.reading.proofs.Theorems.{read_place_small}
use Rattle.labels.specs.Label.{label_of, part_in}
use Rattle.labels.proofs.Labelled.{place_inside, place_small}
use Rattle.labels.specs.declared.Place.{Place}
use Rattle.count_levels.specs.declared.Trips.{Trips}
use Rattle.counting.specs.Count.{CountAnswer, CountOutcome}
use Rattle.counting.proofs.Theorems.{count_place_small}
use Rattle.undo.specs.Stores.{State}
use Rattle.undo.specs.Calls.{Ended}
use Rattle.recovery.specs.Recover as recover
use Rattle.recovery.specs.Recover.{RecoverAnswer, RecoverOutcome}
use Rattle.swaps.specs.Outcome as swap
use Rattle.swaps.specs.Outcome.{SwapAnswer, SwapOutcome}
use Rattle.runs.specs.OneSwap.{plain_swap}
use Rattle.runs.specs.Run as run
use Rattle.runs.specs.Run.{RunAnswer, RunOutcome}
use Rattle.relay_numbers.specs.Written.{Written, wrote, written, told}
use Rattle.relay_parts.specs.Small.{Small, small}
use Rattle.relay.specs.Told.{told_count, told_swap, told_run, told_recover, CountTold, SwapTold, RunTold, RecoverTold}
use Rattle.relay_numbers.specs.Fits.{limit, Fits, NumberFits, swap_fits, run_fits, recover_number_fits}

-- ---- the numbers of Check, Read and Show

module _ (t r o : List ℕ) where
  pub check_fits : {a : CheckAnswer} → CheckOutcome t r o a → NumberFits a
  check_fits {a} p = go a p
    where
      go : (b : CheckAnswer) → CheckOutcome t r o b → NumberFits b
      go (Ok n) q = omega (arith, used_small t r o n (sym q))
      go (Err w) q = check_place_small t r o limit w.fault w.place (omega arith) (sym q)

  module _ (position : ℕ) where
    pub read_place_fits : (inputs : List ℕ) {a : ReadAnswer} (f : Refusal) → ReadOutcome t r o position inputs a → a ≡ Err f → position < limit
        → f.place < limit
    read_place_fits inputs f p q l = read_place_small t r o position inputs limit f.fault f.place (omega arith) l (sym p ∙ q)

    pub part_fits : {p : Part} → p ≡ part_of t r o position → Small p
    part_fits is = rw is (small (part_inside t r o position) (part_small t r o position) (omega arith))

-- ---- a label

pub place_fits : (s f : List ℕ) (v : ℕ) {place : Place} → place ≡ label_of s f v → Small (part_in place)
place_fits s f v is = rw is (small (place_inside s f v) (place_small s f v) (omega arith))

-- ---- a count

module _ (t r o : List ℕ) (position : ℕ) where
  pub count_place_fits : {a : CountAnswer} (f : Refusal) → CountOutcome t r o position a → a ≡ Err f → position < limit → f.place < limit
  count_place_fits f p q l = count_place_small t r o position limit f.fault f.place (omega arith) l (sym p ∙ q)

  module _ (list counts : List ℕ) (shares : List Float) where
    abbrev short : Bool
    short = (ltb (length list) 2 || ltb (length counts) 1) || ltb (length shares) 1

    nothing : short ≡ true → CountTold t r o position counts shares list (wrote 0 list) counts shares
    unfolding told_count
    nothing h = rw h

    pub short_list : length list < 2 → CountTold t r o position counts shares list (wrote 0 list) counts shares
    short_list h = nothing (rw (lt-ltb (length list) 2 h))

    pub no_counts : length counts ≡ 0 → CountTold t r o position counts shares list (wrote 0 list) counts shares
    no_counts h = nothing (rw (lt-ltb (length counts) 1 (omega arith), ← or_true (ltb (length list) 2)))

    pub no_shares : length shares ≡ 0 → CountTold t r o position counts shares list (wrote 0 list) counts shares
    no_shares h = nothing (rw (lt-ltb (length shares) 1 (omega arith), ← or_true (ltb (length list) 2 || ltb (length counts) 1)))

    -- else each of the three has room
    module _ {a : CountAnswer} (outcome : CountOutcome t r o position a) {w : Written} where
      pub count_told : (trips : Trips) → a ≡ Ok trips → w ≡ written list (0 ∷ []) → 2 ≤ length list → 0 < length counts → 0 < length shares
          → CountTold t r o position counts shares list w (set counts 0 trips.count) (set shares 0 trips.share)
      unfolding told_count
      count_told trips e p l c s =
          rw (le-ltb (length list) 2 l, le-ltb (length counts) 1 c, le-ltb (length shares) 1 s, ← outcome, e, p)

      pub count_refused : (f : Refusal) → a ≡ Err f → w ≡ written list (number f.fault ∷ f.place ∷ []) → 2 ≤ length list → 0 < length counts
          → 0 < length shares → CountTold t r o position counts shares list w counts shares
      unfolding told_count
      count_refused f e p l c s =
          rw (le-ltb (length list) 2 l, le-ltb (length counts) 1 c, le-ltb (length shares) 1 s, ← outcome, e, p)

pub ruleset count_tells = (count_place_fits, short_list, no_counts, no_shares, count_told, count_refused, rules)

-- ---- a call that may change a table, an order and a log

told_nothing : (most : ℕ) (list : List ℕ) (s : State) (numbers : List ℕ) (s' : State) → length list < most
    → record { written = wrote 0 list; state = s } ≡ told most list s numbers s'
unfolding told
told_nothing most list s numbers s' h = rw (lt-ltb (length list) most h)

-- the whole answer fits: its numbers are written, and the buffers are those that the call left
told_all : {A : Type 0} (most : ℕ) (list : List ℕ) (numbers : A → List ℕ) (s : State) {s' : State} {a : A} {e : Ended A} {w : Written}
    → record { answer = a; state = s' } ≡ e → w ≡ written list (numbers a) → most ≤ length list
    → record { written = w; state = s' } ≡ told most list s (numbers e.answer) e.state
unfolding told
told_all {A} most list numbers s {s'} {a} {e} {w} outcome p h =
    ap (λ z. record { written = z; state = s' }) p
    ∙ ap (λ (x : Ended A). record { written = written list (numbers x.answer); state = x.state }) outcome
    ∙ rw (le-ltb (length list) most h)

module _ (list : List ℕ) (s : State) (r : List ℕ) (k : ℕ) where
  pub swap_nothing : length list < 4 → SwapTold s r k list (wrote 0 list) s
  unfolding told_swap
  swap_nothing h = told_nothing 4 list s _ _ h

  module _ {a : SwapAnswer} {s' : State} (outcome : SwapOutcome s r k a s') where
    pub swap_told : {w : Written} → w ≡ written list (swap.numbers a) → 4 ≤ length list → SwapTold s r k list w s'
    unfolding told_swap
    swap_told p h = told_all 4 list swap.numbers s outcome p h

    pub swap_told_fits : k < limit → Fits (swap.numbers a)
    swap_told_fits h = subst Fits (ap (λ (e : Ended SwapAnswer). swap.numbers e.answer) (sym outcome)) (swap_fits s r k h)

pub ruleset swap_tells = (swap_told_fits, swap_told, rules)

module _ (list : List ℕ) (s : State) (r g : List ℕ) (plan budget : ℕ) where
  pub run_nothing : length list < 6 → RunTold s r g plan budget list (wrote 0 list) s
  unfolding told_run
  run_nothing h = told_nothing 6 list s _ _ h

  module _ {a : RunAnswer} {s' : State} (outcome : RunOutcome plain_swap plan s r g budget a s') where
    pub run_told : {w : Written} → w ≡ written list (run.numbers a) → 6 ≤ length list → RunTold s r g plan budget list w s'
    unfolding told_run
    run_told p h = told_all 6 list run.numbers s outcome p h

    pub run_told_fits : plan < limit → budget < limit → Fits (run.numbers a)
    run_told_fits p b = subst Fits (ap (λ (e : Ended RunAnswer). run.numbers e.answer) (sym outcome)) (run_fits s r g plan budget p b)

pub ruleset run_tells = (run_told_fits, run_told, rules)

-- what Recover answers is told by the same numbers as what Check does
same_numbers : (a : Result ℕ Refusal) → check.numbers a ≡ recover.numbers a
same_numbers (Ok n) = refl
same_numbers (Err w) = refl

module _ (list : List ℕ) (s : State) where
  pub recover_nothing : length list < 2 → RecoverTold s list (wrote 0 list) s
  unfolding told_recover
  recover_nothing h = told_nothing 2 list s _ _ h

  module _ {a : RecoverAnswer} {s' : State} (outcome : RecoverOutcome s a s') where
    pub recover_told : {w : Written} → w ≡ written list (check.numbers a) → 2 ≤ length list → RecoverTold s list w s'
    unfolding told_recover
    recover_told p h = told_all 2 list recover.numbers s outcome (p ∙ ap (written list) (same_numbers a)) h

    pub recover_told_fits : NumberFits a
    recover_told_fits = subst NumberFits (ap (λ (e : Ended RecoverAnswer). e.answer) (sym outcome)) (recover_number_fits s)

pub ruleset recover_tells = (recover_told_fits, recover_told, rules)
