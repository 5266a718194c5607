use Rattle.std.proofs.Common.{rules, refl}
use Rattle.lists.proofs.Found.{found_by_find}
use Rattle.check_repeats.specs.Repeats.{same_record}
use Rattle.check_repeats.proofs.plain.first_same.Goals as goal

pub returns : goal.returns
returns c = found_by_find _ _ _ _ (same_record c.args.table.now c.args.i.0) (λ x b q k. search rules) refl refl c.find.ensures.ran
