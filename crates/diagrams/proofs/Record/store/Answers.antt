use Rattle.diagrams.proofs.Laws.{record_stored}
use Rattle.diagrams.proofs.Record.store.Goals as goal

pub returns : goal.returns
returns c = record_stored c.args.table.now c.args.i.0 (cc)
