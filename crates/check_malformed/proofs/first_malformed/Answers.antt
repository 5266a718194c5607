use Rattle.std.proofs.Common.{rules, refl}
use Rattle.lists.proofs.Found.{found_by_find}
use Rattle.check_malformed.specs.Malformed.{malformed}
use Rattle.check_malformed.proofs.first_malformed.Goals as goal

pub returns : goal.returns
returns c = found_by_find _ _ _ _ (malformed c.args.table.now c.args.n) (λ x b q k. search rules) refl c.count_records.ensures c.find.ensures.ran
