use Rattle.std.proofs.Common.{rules, refl}
use Rattle.lists.proofs.Found.{found_by_find}
use Rattle.plans.specs.Course.{from, to}
use Rattle.plans.specs.Plans.{differs_at}
use Rattle.plans.proofs.course.Course.first_difference.Goals as goal

pub returns : goal.returns
returns c =
    let s = c.args.self.now in
    found_by_find _ _ _ _ (differs_at (from s) (to s)) (λ x b q k. search rules) refl refl c.find.ensures.ran
