use Rattle.std.proofs.Common.{rules}
use Rattle.swap_result.specs.Image.{copyable, slots_there, crossing_there, kept_fit, slice_past, filled_by}
use Rattle.swap_result.proofs.fill.Goals as goal

pub copy_living-requires : goal.copy_living-requires
copy_living-requires c = copyable c.requires (slice_past _ c.as_slice-slots.ensures)

pub place_records-requires : goal.place_records-requires
place_records-requires c = search (slots_there, rules)

pub place_records-requires-2 : goal.place_records-requires-2
place_records-requires-2 c = (
  (crossing_there c.requires _ (search rules) (search rules), kept_fit c.requires (search rules) (search rules)),
  c.requires.small_y,
)

pub returns : goal.returns
returns c =
    filled_by c.requires (slice_past _ c.as_slice-slots.ensures) (search rules) (search rules) (search rules) (search rules) c.copy_living.ensures
    c.place_records.ensures c.place_records-2.ensures
