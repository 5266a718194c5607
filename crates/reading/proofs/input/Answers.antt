use Rattle.std.proofs.Common.{rules}
use Rattle.reading.specs.Read.{input_of}
use Rattle.reading.proofs.input.Goals as goal

pub returns : goal.returns
unfolding input_of
returns c = search rules
