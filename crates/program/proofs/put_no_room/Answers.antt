use Rattle.texts.specs.Put.{putting}
use Rattle.program.specs.Text.{slice_text}
use Rattle.program.proofs.put_no_room.Goals as goal

pub returns : goal.returns
unfolding slice_text
returns c = search putting
