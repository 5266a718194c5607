use Rattle.chains.specs.Chains.{chaining}
use Rattle.check_repeats.proofs.chained.enter.Goals as goal

pub returns : goal.returns
returns c = search chaining
