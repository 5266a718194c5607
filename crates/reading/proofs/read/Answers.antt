use Rattle.reading.specs.Read.{read_stages}
use Rattle.reading.proofs.Laws.{reading}
use Rattle.reading.proofs.read.Goals as goal

pub returns-in_err-verdict_of_all : goal.returns-in_err-verdict_of_all
unfolding read_stages
returns-in_err-verdict_of_all c = search reading depth 12

pub returns-in_err-refuse_if : goal.returns-in_err-refuse_if
unfolding read_stages
returns-in_err-refuse_if c = search reading depth 12

pub returns-in_err-refuse_if-2 : goal.returns-in_err-refuse_if-2
unfolding read_stages
returns-in_err-refuse_if-2 c = search reading depth 12

pub returns : goal.returns
unfolding read_stages
returns c = search reading depth 12
