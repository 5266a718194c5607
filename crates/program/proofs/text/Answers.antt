use Rattle.program.proofs.Laws.{printing, program_printed}
use Rattle.program.proofs.text.Goals as goal

pub put_run-requires : goal.put_run-requires
put_run-requires c = search printing

pub returns : goal.returns
returns c =
    program_printed _ _ _ _ _ _ _ c.run-answer.ensures c.number_in.ensures.0 c.new-page.ensures.empty.1 c.new-page.ensures.empty.0
    c.put_run.ensures (search printing) (search printing) c.len.ensures
