use Rattle.std.specs.Prelude.{◌≡◌}
use Rattle.lists.specs.Fold.{fold}
use Rattle.check_names.specs.Marks.{marked_root}
use Rattle.check_names.proofs.mark_roots.Given as goal

abbrev pub invariant-loop-k : goal.invariant-loop-k
invariant-loop-k l = l.marks ≡ fold (marked_root l.roots) l.fn.marks l.k
