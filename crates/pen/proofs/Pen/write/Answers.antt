use Rattle.pen.proofs.Laws.{row}
use Rattle.pen.proofs.Pen.write.Goals as goal

pub loop-j-init : goal.loop-j-init
loop-j-init c = search row

pub loop-j-preserved : goal.loop-j-preserved
loop-j-preserved c = search row

pub returns : goal.returns
returns c = search row
