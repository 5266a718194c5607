use Rattle.std.proofs.Common.{rules}
use Rattle.swap_reckoning.specs.Reckoned.{sorted_again}
use Rattle.swap_preparing.proofs.Laws.{no_room, fillable, prepared}
use Rattle.swap_preparing.proofs.fill_image.Goals as goal

pub reckon-requires : goal.reckon-requires
reckon-requires c = (sorted_again c.requires.0.0 c.add_dying.ensures).ready

pub fill-requires : goal.fill-requires
fill-requires c =
    fillable _ _ c.requires.0.1 c.len-free.ensures c.add_dying.ensures c.reckon.ensures.0 c.reckon.ensures.1 c.counts-counts.ensures c.requires.1.0
    (search rules) c.requires.1.1

pub returns-then-counts : goal.returns-then-counts
returns-then-counts c =
    prepared _ _ c.requires.0.1 c.len-free.ensures c.add_dying.ensures c.reckon.ensures.0 c.reckon.ensures.1 c.counts-counts.ensures c.fill.ensures

pub returns-else-counts : goal.returns-else-counts
returns-else-counts c =
    no_room _ _ c.requires.0.1 c.len-free.ensures c.add_dying.ensures c.reckon.ensures.0 c.reckon.ensures.1 c.counts-counts.ensures (search rules)
