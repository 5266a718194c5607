use Rattle.std.proofs.Common.{refl}
use Rattle.slices.proofs.Laws.{start_arranged, start_drivable, start_target, slice_done}
use Rattle.slices.proofs.run_slice.Goals as goal

pub invariant_of-course : goal.invariant_of-course
invariant_of-course c = record { arranged = start_arranged _ _ _ _ _ c.requires c.load.ensures c.load-2.ensures }

pub drive-reached-requires : goal.drive-reached-requires
drive-reached-requires c = start_drivable _ _ _ _ _ c.requires c.load.ensures c.load-2.ensures _ refl refl

pub returns : goal.returns
returns c =
    slice_done _ (start_target _ _ _ _ _ c.requires c.load.ensures c.load-2.ensures) c.drive-reached.ensures c.answer_of.ensures
