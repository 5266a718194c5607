use Rattle.std.proofs.Common.{refl}
use Rattle.slices.proofs.Laws.{drive_begins, drive_rests, drive_lost, drive_goes}
use Rattle.slices.proofs.drive.Goals as goal

pub loop-swaps-init : goal.loop-swaps-init
loop-swaps-init c = drive_begins c.args.plan c.args.budget c.requires

pub returns-in_default : goal.returns-in_default
returns-in_default c = drive_rests c.args.plan c.loop-swaps.invariant c.in_default.ensures

pub returns-then-pen-eq0 : goal.returns-then-pen-eq0
returns-then-pen-eq0 c = drive_lost c.args.plan c.loop-swaps.invariant c.in-Some.ensures c.loop-swaps-test.true _ refl refl c.if-pen-eq0.true

pub loop-swaps-preserved : goal.loop-swaps-preserved
loop-swaps-preserved c = drive_goes c.args.plan c.loop-swaps.invariant c.in-Some.ensures c.loop-swaps-test.true c.if-pen-eq0.false _ refl refl refl
