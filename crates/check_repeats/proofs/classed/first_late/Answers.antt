use Rattle.std.proofs.Common.{rules, refl}
use Rattle.lists.proofs.Found.{found_by_find}
use Rattle.check_repeats.specs.Late.{late}
use Rattle.check_repeats.proofs.classed.first_late.Goals as goal

pub returns : goal.returns
returns c = found_by_find _ _ _ _ (late c.args.table.now c.args.class.now) (λ x b q k. search rules) refl c.count_records.ensures c.find.ensures.ran
