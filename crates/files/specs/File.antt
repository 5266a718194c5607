-- What came of reading a file into a buffer: so many bytes, unless it can't be read.
use Rattle.std.specs.Prelude.{ℕ, ◌<◌, ◌≤◌, List, length, take, Option, Result, IfOk}
use Rattle.std.specs.Io.KnownBytes.{Consumes, IsAtEnd}
use Rattle.files.specs.declared.Unreadable.{Unreadable}

-- what was read stands in the buffer
abbrev pub Within : Result ℕ Unreadable → List ℕ → Type 0
Within read buffer = IfOk read (λ n. n ≤ length buffer)

-- where it is known which bytes the reader has, the first of them stand in the buffer: as many as it holds, or all
abbrev pub ReadInto : Result ℕ Unreadable → Option (List ℕ) → Option (List ℕ) → List ℕ → Type 0
ReadInto read before after buffer = IfOk read (λ n. Consumes before after (take n buffer) × (n < length buffer → IsAtEnd after))
