use Rattle.std.proofs.Common.{rules}
use Rattle.diagrams.specs.Decode.{node_at}
use Rattle.diagrams.proofs.Record.of.Goals as goal

pub returns-then-is_free : goal.returns-then-is_free
unfolding node_at
returns-then-is_free c = search rules

pub returns : goal.returns
unfolding node_at
returns c = search rules
