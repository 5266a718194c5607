use Rattle.std.proofs.Common.{arith}
use Rattle.classes.proofs.Laws.{bit_of_variable, bit_of_low, bit_of_high}
use Rattle.classes.proofs.bit.Goals as goal

pub returns-then-k-lt8 : goal.returns-then-k-lt8
returns-then-k-lt8 c = (rw c.variable.ensures.0 (bit_of_variable _ _ _ (omega arith)), omega arith)

pub returns-then-k-lt24 : goal.returns-then-k-lt24
returns-then-k-lt24 c = (rw c.low.ensures.0 (bit_of_low _ _ _ c.type_inv.table (omega arith) (omega arith)), omega arith)

pub returns : goal.returns
returns c = (rw c.high.ensures.0 (bit_of_high _ _ _ c.type_inv.table (omega arith)), omega arith)
