use Rattle.recovery.proofs.Laws.{back}
use Rattle.recovery.proofs.put_back.Goals as goal

pub write-requires : goal.write-requires
write-requires c = search back

pub write-requires-else-log-at : goal.write-requires-else-log-at
write-requires-else-log-at c = search back

pub returns-then-log-at : goal.returns-then-log-at
returns-then-log-at c = search back

pub returns-else-log-at : goal.returns-else-log-at
returns-else-log-at c = search back
