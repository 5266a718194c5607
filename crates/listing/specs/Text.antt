-- The listing of a store as a list of bytes: a line for the order, the lines of each record, a line for the roots.
-- docs/RULES.md, 8.2.
use Rattle.std.specs.Prelude.{ℕ, List, ◌++◌, length, get_or}
use Rattle.diagrams.specs.Layout.{records, root_count, root_at}
use Rattle.texts.specs.Text.{bytes, numbered, in_turn}
use Rattle.record_lines.specs.Text.{record_text}

-- ---- the order: each variable after a space, from the top level down

unfoldable pub variable_text : List ℕ → ℕ → List ℕ
variable_text o k = numbered (bytes " ") (get_or o k 0)

abbrev pub variables_text : List ℕ → List ℕ
variables_text o = in_turn (variable_text o) (length o)

unfoldable pub order_line : List ℕ → List ℕ
order_line o = bytes "order" ++ variables_text o ++ bytes "\n"

-- ---- the records, each with the label of its variable: `label` gives the text of each

abbrev pub records_text : (ℕ → List ℕ) → List ℕ → List ℕ
records_text label t = in_turn (record_text label t) (records t)

-- ---- the roots: each reference after a space; the word alone where there is none

unfoldable pub root_text : List ℕ → ℕ → List ℕ
root_text r k = numbered (bytes " ") (root_at r k)

abbrev pub references_text : List ℕ → List ℕ
references_text r = in_turn (root_text r) (root_count r)

unfoldable pub roots_line : List ℕ → List ℕ
roots_line r = bytes "roots" ++ references_text r ++ bytes "\n"

unfoldable pub listing : (ℕ → List ℕ) → List ℕ → List ℕ → List ℕ → List ℕ
listing label t r o = order_line o ++ records_text label t ++ roots_line r
