use Rattle.std.specs.Prelude.{◌≡◌}
use Rattle.lists.specs.Fold.{fold}
use Rattle.check_names.specs.Marks.{marked_record}
use Rattle.check_names.proofs.mark_records.Given as goal

abbrev pub invariant-loop-i : goal.invariant-loop-i
invariant-loop-i l = l.marks ≡ fold (marked_record l.table) l.fn.marks l.i
