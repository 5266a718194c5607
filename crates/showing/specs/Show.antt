-- Show: the part of the caller's own table that is the record of a root; an empty part where the table is refused, there is no such root,
-- or the root is a constant.
-- docs/RULES.md, 3.
use Rattle.std.specs.Prelude.{ℕ, ◌-◌, ◌*◌, Bool, true, false, cond, ◌&&◌, List, [], ◌∷◌, ◌++◌, leb, Ok, Err}
use Rattle.diagrams.specs.Layout.{record_size, root_at}
use Rattle.parts.specs.Part.{part_from, no_part, Handed}
use Rattle.parts.specs.declared.Part.{Part}
use Rattle.checks.specs.Stages.{Verdict, Stage, stage_at, verdict_of}
use Rattle.checks.specs.Check.{check_stages}
use Rattle.checks.specs.declared.Fault.TheVariants.{NoRoot}
use Rattle.reading.specs.Read.{no_root}

abbrev pub is_clear : Verdict → Bool
is_clear (Ok _) = true
is_clear (Err w) = false

unfoldable pub show_stages : List ℕ → List ℕ → List ℕ → ℕ → List Stage
show_stages t r o position = check_stages t r o ++ (stage_at NoRoot position (no_root r position) ∷ [])

-- an accepted table, such a root, and no constant
unfoldable pub shows : List ℕ → List ℕ → List ℕ → ℕ → Bool
shows t r o position = is_clear (verdict_of (show_stages t r o position)) && leb 2 (root_at r position)

-- record i of a table
abbrev pub part_at : ℕ → Part
part_at i = part_from (record_size * i) record_size

-- where the part that is handed back begins and ends
unfoldable pub part_of : List ℕ → List ℕ → List ℕ → ℕ → Part
part_of t r o position = cond (shows t r o position) (part_at (root_at r position - 2)) no_part

-- what Show may hand back: these bytes, by this pointer, as that part of the caller's own table, which stands at `table` in the caller's memory
abbrev pub ShowOutcome : List ℕ → List ℕ → List ℕ → ℕ → ℕ × ℕ → ℕ × ℕ → List ℕ → Type 0
ShowOutcome t r o position table pointer bytes = Handed (part_of t r o position) t table pointer bytes
