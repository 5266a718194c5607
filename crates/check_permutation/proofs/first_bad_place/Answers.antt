use Rattle.std.proofs.Common.{rules, refl}
use Rattle.lists.proofs.Found.{found_by_find}
use Rattle.check_permutation.specs.BadPlace.{bad_place}
use Rattle.check_permutation.proofs.first_bad_place.Goals as goal

pub returns : goal.returns
returns c = found_by_find _ _ _ _ (bad_place c.args.order.now) (λ x b q k. search rules) refl refl c.find.ensures.ran
