use Rattle.std.proofs.Common.{ℕ, arith, ◌∙◌}
use Rattle.std.proofs.lemmas.List.{length-replicate}
use Rattle.diagrams.specs.Layout.{most_records}
use Rattle.lists.specs.First.{passed_none}
use Rattle.lists.specs.Found.{seek_goes, seek_finds, seek_ends}
use Rattle.chains.specs.Chains.{chained_none}
use Rattle.check_repeats.proofs.chained.search.Goals as goal

pub loop-i-init : goal.loop-i-init
loop-i-init c = record {
  passed = passed_none;
  chained = chained_none c.no_heads-head.ensures (length-replicate {A = ℕ} most_records 0);
  few_steps = omega arith;
}

pub returns-then-is_some : goal.returns-then-is_some
returns-then-is_some c =
    let tells = c.is_some.ensures ∙ c.enter-walked.ensures.0.tells in
    seek_finds c.loop-i.invariant.passed c.loop-i-test.true tells c.if-is_some.true c.count_records-i-end.ensures

pub loop-i-preserved : goal.loop-i-preserved
loop-i-preserved c =
    let tells = c.is_some.ensures ∙ c.enter-walked.ensures.0.tells in
    record {
      passed = seek_goes c.loop-i.invariant.passed tells c.if-is_some.false;
      chained = c.enter-walked.ensures.1;
      few_steps = omega arith;
    }

pub returns : goal.returns
returns c = seek_ends c.loop-i.invariant.passed (omega arith) c.count_records-i-end.ensures
