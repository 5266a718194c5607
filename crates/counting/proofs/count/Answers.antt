use Rattle.std.proofs.Common.{refl}
use Rattle.checks.specs.Stages.{stopped_by, rows}
use Rattle.counting.specs.Count.{count_stages}
use Rattle.counting.proofs.Laws.{count_stops, count_tells, clear_countable, vertex}
use Rattle.counting.proofs.count.Goals as goal

pub returns-in_err-verdict_of_all : goal.returns-in_err-verdict_of_all
unfolding count_stages
returns-in_err-verdict_of_all c = stopped_by c.from_residual.ensures.1 (count_stops _ _ _ _ _ (search rows))

pub returns-in_err-refuse_if : goal.returns-in_err-refuse_if
unfolding count_stages
returns-in_err-refuse_if c = stopped_by c.from_residual-in_err-refuse_if.ensures.1 (count_stops _ _ _ _ _ (search rows))

pub returns-in_err-refuse_if-2 : goal.returns-in_err-refuse_if-2
unfolding count_stages
returns-in_err-refuse_if-2 c = stopped_by c.from_residual-in_err-refuse_if-2.ensures.1 (count_stops _ _ _ _ _ (search rows))

pub returns : goal.returns
unfolding count_stages
returns c = count_tells _ _ _ _ (search rows) c.root-root.ensures.0 c.trips_of.ensures.count c.trips_of.ensures.share

pub trips_of-requires : goal.trips_of-requires
trips_of-requires c = (
  clear_countable c.args.table.now c.args.roots.now c.args.order.now c.args.position c.verdict_of_all.ensures c.in_ok-verdict_of_all.was
      refl refl c.refuse_if.ensures c.in_ok-refuse_if.was,
  vertex _ _ _ c.args.position c.verdict_of_all.ensures c.in_ok-verdict_of_all.was c.count_roots.ensures refl c.refuse_if-2.ensures
      c.in_ok-refuse_if-2.was c.root-root.ensures.0,
)
