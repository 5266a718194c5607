use Rattle.labels.specs.Lists.{texts}
use Rattle.texts.specs.Put.{Turns}
use Rattle.record_lines.specs.Text.{record_text}
use Rattle.listing.proofs.put_records.Given as goal

abbrev pub invariant-loop-i : goal.invariant-loop-i
invariant-loop-i l = Turns (record_text (texts l.labels) l.table) l.fn.page l.i l.page
