use Rattle.texts.specs.Put.{putting}
use Rattle.listing.specs.Text.{roots_line}
use Rattle.listing.proofs.put_roots.Goals as goal

pub returns : goal.returns
unfolding roots_line
returns c = search putting
