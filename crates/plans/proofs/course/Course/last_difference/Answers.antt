use Rattle.std.proofs.Common.{rules, refl}
use Rattle.plans.specs.Course.{from, to}
use Rattle.plans.specs.Plans.{differs_at}
use Rattle.plans.proofs.FoundLast.{found_by_rev_find}
use Rattle.plans.proofs.course.Course.last_difference.Goals as goal

pub returns : goal.returns
returns c =
    let s = c.args.self.now in
    found_by_rev_find _ (differs_at (from s) (to s)) (λ x b q k. search rules) _ _ _ c.rev.ensures.source refl c.find.ensures.ran
