use Rattle.std.proofs.Common.{rules}
use Rattle.swap_result.specs.Image.{dying_inside, copied_living}
use Rattle.swap_result.proofs.copy_living.Goals as goal

pub free_records-requires : goal.free_records-requires
free_records-requires c = search (dying_inside, rules)

pub returns : goal.returns
returns c = search copied_living
