-- Every number of an answer of Swap, of Run and of Recover fits 32 bits.
use Rattle.std.specs.Prelude.{ℕ, ◌<◌, List, Result, Ok, Err}
use Rattle.std.proofs.Common.{arith}
use Rattle.lists.specs.Below.{Below}
use Rattle.checks.specs.declared.Refusal.{Refusal}
use Rattle.undo.specs.Stores.{State}
use Rattle.recovery.specs.Recover as recover
use Rattle.recovery.specs.Recover.{RecoverAnswer}
use Rattle.recovery.proofs.Bounds.{recover_numbers_small}
use Rattle.swaps.specs.Outcome as swap
use Rattle.swaps.proofs.Bounds.{swap_numbers_small}
use Rattle.runs.specs.OneSwap.{plain_swap}
use Rattle.runs.specs.Run as run
use Rattle.runs.proofs.Bounds.{run_numbers_small}

abbrev pub limit : ℕ
limit = 4294967296

abbrev pub Fits : List ℕ → Type 0
Fits numbers = Below limit numbers

-- a number that is answered, or the place of a refusal
abbrev pub NumberFits : Result ℕ Refusal → Type 0
NumberFits (Ok n) = n < limit
NumberFits (Err w) = w.place < limit

pub swap_fits : (s : State) (r : List ℕ) (k : ℕ) → k < limit → Fits (swap.numbers (swap.swap_of s r k).answer)
swap_fits s r k h = swap_numbers_small s r k limit (omega arith) h

pub run_fits : (s : State) (r g : List ℕ) (plan budget : ℕ) → plan < limit → budget < limit
    → Fits (run.numbers (run.run_of plain_swap plan s r g budget).answer)
run_fits s r g plan budget p b = run_numbers_small plan s r g budget limit (omega arith) b p

pub recover_fits : (s : State) → Fits (recover.numbers (recover.recover_of s).answer)
recover_fits s = recover_numbers_small s limit (omega arith)

pub recover_number_fits : (s : State) → NumberFits (recover.recover_of s).answer
recover_number_fits s = go (recover.recover_of s).answer (recover_fits s)
  where
    go : (a : RecoverAnswer) → Fits (recover.numbers a) → NumberFits a
    go (Ok n) f = f.1.0
    go (Err w) f = f.1.0
