use Rattle.showing.proofs.Laws.{handing}
use Rattle.showing.proofs.show.Goals as goal

pub part_of-requires : goal.part_of-requires
part_of-requires c = search handing

pub returns : goal.returns
returns c = search handing
