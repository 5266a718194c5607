use Rattle.std.proofs.Common.{rules, refl}
use Rattle.lists.proofs.Found.{found_by_find}
use Rattle.orders.specs.Permutation.{level_of}
use Rattle.check_levels.specs.Levels.{not_below}
use Rattle.check_levels.proofs.first_not_below.Goals as goal

pub returns : goal.returns
returns c =
    found_by_find _ _ _ _ (not_below c.args.table.now (level_of c.args.order.now)) (λ x b q k. search rules) refl c.count_records.ensures c.find.ensures.ran
