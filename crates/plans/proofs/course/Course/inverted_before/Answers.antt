use Rattle.std.proofs.Common.{◌≡◌, ℕ, Bool, ◌∙◌, rules, arith}
use Rattle.std.proofs.lemmas.Iterator.{YieldsList-from_range}
use Rattle.std.proofs.lemmas.Iterator.Consumers.{YieldsList-from_filter, count_from_yields_List}
use Rattle.lists.specs.Count.{count, count_small}
use Rattle.plans.specs.Course.{from, to}
use Rattle.plans.specs.Inversions.{inverted}
use Rattle.plans.proofs.Counted.{filtered_count}
use Rattle.plans.proofs.course.Course.inverted_before.Goals as goal

pub returns : goal.returns
returns c =
    let v = c.args.v.0 in
    let p : ℕ → Bool = λ u. inverted (from c.args.self.now) (to c.args.self.now) u v in
    let counted : c.count.result ≡ count p v =
    count_from_yields_List _ _ c.count.ensures.ran
    (YieldsList-from_filter _ p (YieldsList-from_range 0 v v c.filter.ensures.source (omega arith)) c.filter.ensures.closure (λ x b q k. search rules))
    ∙ filtered_count p v in
    (counted, omega (arith, count_small p v))
