use Rattle.std.proofs.Common.{rules, refl}
use Rattle.lists.proofs.Found.{found_by_find}
use Rattle.plans.specs.Course.{from, to}
use Rattle.plans.specs.Nearest.{inverted_at}
use Rattle.plans.proofs.Laws.{highest_returns}
use Rattle.plans.proofs.course.Course.highest_inversion.Goals as goal

pub returns : goal.returns
returns c =
    let s = c.args.self.now in
    highest_returns s.arranged
    (found_by_find _ _ _ _ (inverted_at (from s) (to s)) (λ x b q k. search rules) refl c.saturating_sub-pairs.ensures c.find.ensures.ran)
