use Rattle.std.specs.Prelude.{not, eqb, take, drop}
use Rattle.std.proofs.Common.{rules, tests}
use Rattle.std.proofs.lemmas.Iterator.{YieldsList-from_slice}
use Rattle.std.proofs.lemmas.Iterator.Search.{any_from_yields_List}
use Rattle.check_log.proofs.Laws.{some_listed}
use Rattle.check_log.proofs.some_byte.Goals as goal

pub returns : goal.returns
returns c =
    some_listed _ _ _ c.requires
    (any_from_yields_List {all = take c.args.n (drop c.args.at c.args.log.now)} (λ x. not (eqb x 0)) _ _ _ c.any.ensures.ran
    (YieldsList-from_slice _ (search rules)) (λ x b q k. search (rules, tests)))
