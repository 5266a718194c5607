use Rattle.relay.proofs.Laws.{recover_tells}
use Rattle.relay.proofs.relay_recover.Goals as goal

pub tell_number-requires : goal.tell_number-requires
tell_number-requires c = search recover_tells

pub returns : goal.returns
returns c = search recover_tells
