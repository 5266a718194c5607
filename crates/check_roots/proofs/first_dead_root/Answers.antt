use Rattle.std.proofs.Common.{rules, refl}
use Rattle.lists.proofs.Found.{found_by_find}
use Rattle.check_roots.specs.Roots.{dead_root}
use Rattle.check_roots.proofs.first_dead_root.Goals as goal

pub returns : goal.returns
unfolding dead_root
returns c =
    found_by_find _ _ _ _ (dead_root c.args.table.now c.args.roots.now) (λ x b q k. search rules) refl c.count_roots.ensures c.find.ensures.ran
