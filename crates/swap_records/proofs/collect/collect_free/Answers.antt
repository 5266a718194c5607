use Rattle.swap_records.specs.Listed.{listing}
use Rattle.swap_records.proofs.collect.collect_free.Goals as goal

pub loop-i-init : goal.loop-i-init
loop-i-init c = search listing

pub loop-i-preserved : goal.loop-i-preserved
loop-i-preserved c = search listing

pub push_if-requires : goal.push_if-requires
push_if-requires c = search listing

pub returns : goal.returns
returns c = search listing
