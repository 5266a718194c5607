-- The program, as a function of the bytes of its seven files.
-- docs/RULES.md, 8.
use Rattle.std.specs.Prelude.{ℕ, ◌+◌, ◌*◌, ◌≤◌, List, length, get_or}
use Rattle.diagrams.specs.Layout.{record_size, root_size, most_records, most_roots}
use Rattle.orders.specs.Permutation.{ceiling}
use Rattle.labels.specs.Label.{text_size, text_of}
use Rattle.job.specs.Job.{empty_log, job_with}
use Rattle.texts.specs.Put.{Printed}
use Rattle.program.specs.Text.{printed}

-- Of the run that the files ask for: its plan and its answer, and the roots with the table and the order that it leaves, labelled by trip.lbs (s) and
-- trip.lbf (f).
unfoldable pub text_with : List ℕ → List ℕ → List ℕ → List ℕ → List ℕ → List ℕ → List ℕ → List ℕ → List ℕ
text_with log t r o g p s f = let ran = job_with log t r o g p in printed (get_or p 0 0) ran.answer (text_of s f) ran.table r ran.order

-- the log that it lends is the longest one, and empty
abbrev pub program_text : List ℕ → List ℕ → List ℕ → List ℕ → List ℕ → List ℕ → List ℕ → List ℕ
program_text t r o g p s f = text_with empty_log t r o g p s f

-- what the program may write: the list was x and is y, and its first n bytes are the text
abbrev pub Prints : List ℕ → List ℕ → List ℕ → List ℕ → List ℕ → List ℕ → List ℕ → List ℕ → List ℕ → ℕ → Type 0
Prints t r o g p s f x y n = Printed (program_text t r o g p s f) x y n

-- the bytes that the text of a full store takes at most, with one variable more than an order may have
abbrev pub most_text : ℕ
most_text = (21 + (text_size + 1)) * most_records + 6 * most_roots + 4 * (ceiling + 1) + 188

-- what the buffers hold: at most one byte more than each file may have
pub record Held (t r o : List ℕ) : Type 0 where
  pub table : length t ≤ record_size * most_records + 1
  pub roots : length r ≤ root_size * most_roots + 1
  pub order : length o ≤ ceiling + 1
