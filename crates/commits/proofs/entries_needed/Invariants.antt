use Rattle.std.proofs.Common.{◌≡◌}
use Rattle.lists.specs.Count.{count}
use Rattle.undo.specs.Log.{changed}
use Rattle.commits.proofs.entries_needed.Given as goal

abbrev pub invariant-loop-i : goal.invariant-loop-i
invariant-loop-i l = l.entries ≡ count (changed l.table l.image) l.i
