use Rattle.relay.proofs.Laws.{run_tells}
use Rattle.relay.proofs.relay_run.Goals as goal

pub tell_run-requires : goal.tell_run-requires
tell_run-requires c = search run_tells

pub returns : goal.returns
returns c = search run_tells
