use Rattle.std.proofs.Common.{rules}
use Rattle.plans.specs.Course.{from, to}
use Rattle.plans.specs.Nearest.{inverted_at}
use Rattle.plans.proofs.FoundLast.{found_by_rev_find}
use Rattle.plans.proofs.Laws.{lowest_returns}
use Rattle.plans.proofs.course.Course.lowest_inversion.Goals as goal

pub returns : goal.returns
returns c =
    let s = c.args.self.now in
    lowest_returns s.arranged
    (found_by_rev_find _ (inverted_at (from s) (to s)) (λ x b q k. search rules) _ _ _ c.rev.ensures.source c.saturating_sub-pairs.ensures
    c.find.ensures.ran)
