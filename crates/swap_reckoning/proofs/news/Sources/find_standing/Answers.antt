use Rattle.std.proofs.Common.{rules, refl}
use Rattle.lists.proofs.Found.{found_by_find}
use Rattle.swap_reckoning.specs.Searching.{matches_at}
use Rattle.swap_reckoning.proofs.news.Sources.find_standing.Goals as goal

pub returns : goal.returns
returns c =
    found_by_find _ _ _ _ (matches_at c.args.self.table.now c.args.self.standing.now c.args.a.0 c.args.b.0) (λ x b q k. search rules) refl refl
    c.find.ensures.ran
