-- How long a listing is at most: 21 bytes a record, as many as a label has and one more for its line, 6 a root, 4 a variable, and the words of two lines.
use Rattle.std.specs.Prelude.{ℕ, ◌+◌, ◌*◌, ◌≤◌, List, length, get_or}
use Rattle.std.proofs.Common.{arith}
use Rattle.diagrams.specs.Layout.{most_records, records, root_count, root_at}
use Rattle.diagrams.specs.Bytes.{Bytes, pair_small}
use Rattle.texts.specs.Text.{bytes}
use Rattle.texts.specs.Short.{Short, both_short, turns_short, word_short, numbered_short}
use Rattle.record_lines.proofs.Size.{record_text_short}
use Rattle.listing.specs.Text.{variable_text, order_line, root_text, roots_line, listing}

variable_short : (o : List ℕ) (k : ℕ) → Bytes o → Short (variable_text o k) 4
unfolding variable_text
variable_short o k b = numbered_short (bytes " ") (get_or o k 0) 2 256 (b k).fits tt

order_short : (o : List ℕ) → Bytes o → Short (order_line o) (5 + 4 * length o + 1)
unfolding order_line
order_short o b = both_short (both_short (word_short (bytes "order")) (turns_short _ _ 4 (λ k l. variable_short o k b))) (word_short (bytes "\n"))

root_short : (r : List ℕ) (k : ℕ) → Bytes r → Short (root_text r k) 6
unfolding root_text
root_short r k b = numbered_short (bytes " ") (root_at r k) 4 65536 (pair_small r _ b) tt

roots_short : (r : List ℕ) → Bytes r → Short (roots_line r) (5 + 6 * root_count r + 1)
unfolding roots_line
roots_short r b = both_short (both_short (word_short (bytes "roots")) (turns_short _ _ 6 (λ k l. root_short r k b))) (word_short (bytes "\n"))

pub listing_short : (label : ℕ → List ℕ) (m : ℕ) (t r o : List ℕ) → ((v : ℕ) → length (label v) ≤ m) → Bytes t → Bytes r → Bytes o → records t ≤ most_records
    → Short (listing label t r o) ((5 + 4 * length o + 1) + (21 + (m + 1)) * records t + (5 + 6 * root_count r + 1))
unfolding listing
listing_short label m t r o most bt br bo h =
    both_short
    (both_short (order_short o bo) (turns_short _ _ (21 + (m + 1)) (λ i l. record_text_short label m most t i bt (omega arith))))
    (roots_short r br)
