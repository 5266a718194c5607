use Rattle.std.specs.Prelude.{◌≡◌}
use Rattle.lists.specs.Count.{count}
use Rattle.diagrams.specs.Layout.{is_used}
use Rattle.checks.proofs.count_used.Given as goal

abbrev pub invariant-loop-i : goal.invariant-loop-i
invariant-loop-i l = l.found ≡ count (is_used l.table) l.i
