-- A side of a record, as the definitions name it.
use Rattle.std.specs.Prelude.{Bool, true, false}
use Rattle.swap_records.specs.declared.Side.{Side}
use Rattle.swap_records.specs.declared.Side.TheVariants.{Low, High}

-- the high one
abbrev pub is_high : Side → Bool
is_high Low = false
is_high High = true
