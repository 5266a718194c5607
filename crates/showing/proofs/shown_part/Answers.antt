use Rattle.showing.proofs.Laws.{showing}
use Rattle.showing.proofs.shown_part.Goals as goal

pub returns-then-is_err : goal.returns-then-is_err
returns-then-is_err c = search showing

pub returns-then-count_roots-position : goal.returns-then-count_roots-position
returns-then-count_roots-position c = search showing

pub returns-then-is_constant : goal.returns-then-is_constant
returns-then-is_constant c = search showing

pub offset-at-requires : goal.offset-at-requires
offset-at-requires c = search showing

pub returns : goal.returns
returns c = search showing
