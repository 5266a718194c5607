use Rattle.runs.specs.Run.{answer_of}
use Rattle.slice_judging.specs.Drivable.{table_sized, log_sized, plan_in_order}
use Rattle.slice_judging.proofs.Laws.{judge_done, judge_meets}
use Rattle.slice_judging.proofs.judge.Goals as goal

pub returns-in_default : goal.returns-in_default
returns-in_default c = judge_done _ c.requires _ c.left-left.ensures.0 c.in_default.ensures

pub entries_held-requires : goal.entries_held-requires
entries_held-requires c = log_sized c.requires

pub ask-requires : goal.ask-requires
ask-requires c = (table_sized c.requires, plan_in_order c.requires c.args.plan c.in-Some.ensures)

pub returns-in-NoRoom : goal.returns-in-NoRoom
unfolding answer_of
returns-in-NoRoom c = judge_meets _ c.requires _ c.left-left.ensures.0 c.in-Some.ensures c.entries_held.ensures c.in-NoRoom.ensures

pub returns-in-LogShort : goal.returns-in-LogShort
unfolding answer_of
returns-in-LogShort c = judge_meets _ c.requires _ c.left-left.ensures.0 c.in-Some.ensures c.entries_held.ensures c.in-LogShort.ensures

pub returns-in-Clear : goal.returns-in-Clear
unfolding answer_of
returns-in-Clear c = judge_meets _ c.requires _ c.left-left.ensures.0 c.in-Some.ensures c.entries_held.ensures c.in-Clear.ensures
