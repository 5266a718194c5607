-- How long the lines of a record are at most: 21 bytes, and for its label as many as the text has and one more.
use Rattle.std.specs.Prelude.{ℕ, ◌+◌, ◌≤◌, ◌<◌, Bool, true, false, cond, List, length}
use Rattle.std.proofs.Common.{zero-le, lit≤}
use Rattle.std.proofs.Math.Dec.{eqb}
use Rattle.diagrams.specs.Layout.{variable_at, low_at, high_at, is_free}
use Rattle.diagrams.specs.Bytes.{Bytes, pair_small}
use Rattle.diagrams.specs.Node.{Node, free, node}
use Rattle.diagrams.specs.Decode.{node_at}
use Rattle.texts.specs.Text.{bytes}
use Rattle.texts.specs.Short.{Short, short, both_short, either_short, word_short, before_zero_short, decimal_short, numbered_short}
use Rattle.record_lines.specs.Text.{content_text, record_line, label_line, label_text, record_text}

fields_short : (v l h : ℕ) → v < 256 → l < 65536 → h < 65536 → Short (content_text (node v l h)) 16
unfolding content_text
fields_short v l h p q r =
    both_short
    (both_short (numbered_short (bytes " ") v 2 256 p tt) (numbered_short (bytes " ") l 4 65536 q tt))
    (numbered_short (bytes " ") h 4 65536 r tt)

content_short : (t : List ℕ) (i : ℕ) → Bytes t → Short (content_text (node_at t i)) 16
unfolding node_at content_text
content_short t i b = go (is_free t i)
  where
    go : (f : Bool) → Short (content_text (cond f free (node (variable_at t i) (low_at t i) (high_at t i)))) 16
    go true = short (lit≤ tt)
    go false = fields_short _ _ _ (b _).fits (pair_small t _ b) (pair_small t _ b)

record_short : (t : List ℕ) (i : ℕ) → Bytes t → i < 10000 → Short (record_line i (node_at t i)) 21
unfolding record_line
record_short t i b l = both_short (both_short (decimal_short i 3 10000 l tt) (content_short t i b)) (word_short (bytes "\n"))

-- with labels of at most m bytes
module _ (label : ℕ → List ℕ) (m : ℕ) (most : (v : ℕ) → length (label v) ≤ m) where
  label_short : (x : Node) → Short (label_text label x) (m + 1)
  unfolding label_text label_line
  label_short free = short zero-le
  label_short (node v l h) =
      either_short (eqb (length (label v)) 0) (short zero-le) (both_short (before_zero_short (label v) m (most v)) (word_short (bytes "\n")))

  pub record_text_short : (t : List ℕ) (i : ℕ) → Bytes t → i < 10000 → Short (record_text label t i) (21 + (m + 1))
  unfolding record_text
  record_text_short t i b l = both_short (record_short t i b l) (label_short (node_at t i))
