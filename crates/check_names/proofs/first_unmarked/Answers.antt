use Rattle.std.proofs.Common.{rules, refl}
use Rattle.lists.proofs.Found.{found_by_find}
use Rattle.check_names.specs.Marks.{unmarked}
use Rattle.check_names.proofs.first_unmarked.Goals as goal

pub returns : goal.returns
returns c =
    found_by_find _ _ _ _ (unmarked c.args.table.now c.args.marks.now) (λ x b q k. search rules) refl c.count_records.ensures c.find.ensures.ran
