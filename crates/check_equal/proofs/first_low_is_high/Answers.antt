use Rattle.std.proofs.Common.{rules, refl}
use Rattle.lists.proofs.Found.{found_by_find}
use Rattle.check_equal.specs.Equal.{low_is_high}
use Rattle.check_equal.proofs.first_low_is_high.Goals as goal

pub returns : goal.returns
returns c = found_by_find _ _ _ _ (low_is_high c.args.table.now) (λ x b q k. search rules) refl c.count_records.ensures c.find.ensures.ran
