use Rattle.std.proofs.Common.{rules}
use Rattle.diagrams.specs.Decode.{eight}
use Rattle.diagrams.proofs.Record.bytes.Goals as goal

pub returns-in-Free : goal.returns-in-Free
unfolding eight
returns-in-Free c = search rules

pub returns-in-Used : goal.returns-in-Used
unfolding eight
returns-in-Used c = search rules
