use Rattle.std.proofs.Common.{take}
use Rattle.undo.specs.Stores.{run}
use Rattle.undo.specs.Wrote.{Wrote}
use Rattle.pen.proofs.Pen.write.Given as goal

abbrev pub invariant-loop-j : goal.invariant-loop-j
invariant-loop-j l = Wrote l.initial.self.fuel (run l.at (take l.j l.bytes)) l.initial.buffer l.buffer l.self.fuel
