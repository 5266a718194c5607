use Rattle.std.proofs.Common.{◌*◌, ◌≤◌}
use Rattle.lists.specs.First.{Passed}
use Rattle.diagrams.specs.Layout.{most_records}
use Rattle.chains.specs.Chains.{Chained}
use Rattle.check_repeats.specs.Repeats.{repeats}
use Rattle.check_repeats.specs.Buckets.{bucket_at}
use Rattle.check_repeats.proofs.chained.search.Given as goal

abbrev pub invariant-loop-i : goal.invariant-loop-i
invariant-loop-i l = record {
  passed : Passed (repeats l.table) l.i;
  chained : Chained (bucket_at l.table) most_records l.i l.chains.head.now l.chains.link.now;
  few_steps : l.steps ≤ 2 * most_records;
}
