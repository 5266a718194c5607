use Rattle.std.proofs.Common.{rules, refl}
use Rattle.lists.proofs.Found.{found_by_find}
use Rattle.labels.specs.Label.{names}
use Rattle.labels.proofs.first_record.Goals as goal

pub returns : goal.returns
returns c =
    found_by_find _ _ _ _ (names c.args.list.now c.args.variable.0) (λ x b q k. search rules) refl c.count_labels.ensures c.find.ensures.ran
