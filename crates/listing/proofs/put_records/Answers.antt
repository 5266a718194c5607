use Rattle.texts.specs.Put.{turns}
use Rattle.listing.proofs.put_records.Goals as goal

pub loop-i-preserved : goal.loop-i-preserved
loop-i-preserved c = search turns
