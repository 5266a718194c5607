use Rattle.recovery.proofs.Laws.{whole}
use Rattle.recovery.proofs.put_logged.Goals as goal

pub returns-then-is_sealed : goal.returns-then-is_sealed
returns-then-is_sealed c = search whole

pub returns-else-is_sealed : goal.returns-else-is_sealed
returns-else-is_sealed c = search whole
