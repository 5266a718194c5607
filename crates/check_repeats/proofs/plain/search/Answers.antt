use Rattle.std.proofs.Common.{rules, refl}
use Rattle.lists.proofs.Found.{found_by_find}
use Rattle.check_repeats.specs.Repeats.{repeats}
use Rattle.check_repeats.proofs.plain.search.Goals as goal

pub returns : goal.returns
returns c = found_by_find _ _ _ _ (repeats c.args.table.now) (λ x b q k. search rules) refl c.count_records.ensures c.find.ensures.ran
