use Rattle.std.proofs.Common.{◌+◌, ◌≤◌}
use Rattle.chains.specs.Chains.{standing}
use Rattle.chains.specs.Walk.{Walk}
use Rattle.check_repeats.specs.Repeats.{same_record}
use Rattle.check_repeats.specs.Buckets.{bucket_at}
use Rattle.check_repeats.proofs.chained.first_same.Given as goal

abbrev pub invariant-loop-entry : goal.invariant-loop-entry
invariant-loop-entry l = record {
  walk : Walk (same_record l.table l.i.0) (bucket_at l.table) l.b l.i.0 l.entry l.found;
  short : l.met + standing l.entry ≤ l.i.0;
}

abbrev pub decreases-loop-entry : goal.decreases-loop-entry
decreases-loop-entry l = standing l.entry
