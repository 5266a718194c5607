use Rattle.std.proofs.Common.{rules}
use Rattle.swap_reckoning.proofs.Laws.{note_one, note_stands, note_known, note_new}
use Rattle.lists.specs.Found.{some_found}
use Rattle.std.proofs.Common.{sym}
use Rattle.swap_reckoning.proofs.news.Sources.note.Goals as goal

pub returns-then-eq : goal.returns-then-eq
returns-then-eq c = note_one c.requires.0 _ _ c.eq.ensures c.if-eq.true (search rules)

pub entry-requires : goal.entry-requires
entry-requires c = (some_found (sym c.in-Some.ensures)).0

pub returns-in-Some : goal.returns-in-Some
returns-in-Some c = note_stands c.requires.0 _ _ c.eq.ensures c.if-eq.false c.in-Some.ensures c.entry.ensures.0 c.reference.ensures

pub returns-in-Some-find_new : goal.returns-in-Some-find_new
returns-in-Some-find_new c = note_known c.requires.0 _ _ c.eq.ensures c.if-eq.false c.in_default.ensures c.new-wanted.ensures (search rules) c.slot.ensures

pub returns : goal.returns
returns c =
    note_new c.requires.0 _ _ c.eq.ensures c.if-eq.false c.in_default.ensures c.new-wanted.ensures (search rules) (search rules) c.push.ensures
    c.slot-2.ensures
