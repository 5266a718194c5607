use Rattle.texts.specs.Put.{putting}
use Rattle.listing.specs.Text.{order_line}
use Rattle.listing.proofs.put_order.Goals as goal

pub returns : goal.returns
unfolding order_line
returns c = search putting
