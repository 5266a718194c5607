-- A swap that is cut after f stores, and calls of Recover, the last one whole: none is refused, and table and order are those of before the swap,
-- or those of after it where the seal's clearing was among the f stores.
use Rattle.std.specs.Prelude.{ℕ, ◌≡◌}
use mathlib.Core.List.{List, [], ◌∷◌}
use Rattle.checks.specs.Stages.{clear, verdict_of}
use Rattle.undo.specs.Stores.{State}
use Rattle.undo.specs.Survives.{recoveries}
use Rattle.recovery.specs.Recover.{recover_stages, recover_cut}

-- recoveries one after the other, cut after so many stores each
unfoldable pub recovers : List ℕ → State → State
recovers [] s = s
recovers (f ∷ fs) s = recovers fs (recover_cut f s)

-- ---- where checks 1 and 14 pass, whatever is cut

-- no recovery of a is refused, however often it is cut and begun again
abbrev pub Accepting : State → Type 0
Accepting a = (fs : List ℕ) → verdict_of (recover_stages (recoveries fs a).table (recoveries fs a).order (recoveries fs a).log) ≡ clear
