use Rattle.std.proofs.Common.{arith, refl}
use Rattle.slice_judging.proofs.answer_of.Goals as goal

pub judge-requires : goal.judge-requires
judge-requires c = c.requires.drivable (omega (arith, c.if-reached-eq0.false)) _ refl refl refl
