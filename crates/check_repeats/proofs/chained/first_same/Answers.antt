use Rattle.std.proofs.Common.{arith}
use Rattle.chains.specs.Walk.{walk_falls, walk_ends, steps_go, walking}
use Rattle.check_repeats.specs.Buckets.{same_bucket}
use Rattle.check_repeats.proofs.chained.first_same.Goals as goal
use Rattle.check_repeats.proofs.chained.first_same.Goals.{then-same, else-same}

pub loop-entry-init : goal.loop-entry-init
loop-entry-init c = record { walk = search (same_bucket, walking); short = search walking }

pub loop-entry-smaller : goal.loop-entry-smaller
loop-entry-smaller c = walk_falls c.requires.0.chained c.loop-entry.invariant.walk c.in-Some.is c.before-entry.ensures

pub loop-entry-preserved : goal.loop-entry-preserved
loop-entry-preserved c =
    let chained = c.requires.0.chained in
    let walk = c.loop-entry.invariant.walk in
    let is = c.in-Some.is in
    let at = c.before-entry.ensures in
    let short = steps_go chained walk is at c.loop-entry.met c.loop-entry.invariant.short in
    elim c.if-same.branch [
      | then-same w ↦ record { walk = rw w.found-is (search walking); short = short }
      | else-same w ↦ record { walk = rw w.found-is (search walking); short = short }
    ]

pub returns : goal.returns
returns c = record { finds = walk_ends c.loop-entry.invariant.walk c.in_default.is; short = omega arith }
