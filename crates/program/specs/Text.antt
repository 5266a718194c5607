-- What is printed of a run: a line for its plan, one for its answer, and the listing of the store that it left; of a refused run the answer alone.
-- docs/RULES.md, 8.2.
use Rattle.std.specs.Prelude.{ℕ, Bool, true, false, cond, List, [], ◌++◌, Ok, Err}
use Rattle.swap_ways.specs.declared.Lack.{Lack}
use Rattle.swap_ways.specs.declared.Short.{Short}
use Rattle.checks.specs.Stages.{number}
use Rattle.checks.specs.declared.Refusal.{Refusal}
use Rattle.runs.specs.Run.{RunAnswer}
use Rattle.runs.specs.declared.Slice.{Slice}
use Rattle.runs.specs.declared.Slice.TheVariants.{Done, NoRoom, LogShort, Paused}
use Rattle.texts.specs.Text.{bytes, numbered}
use Rattle.listing.specs.Text.{listing}

-- ---- the line of the answer

unfoldable pub swaps_text : List ℕ → ℕ → ℕ → List ℕ
swaps_text word swaps left = numbered word swaps ++ numbered (bytes " left ") left

unfoldable pub lack_text : Lack → List ℕ
lack_text lack = numbered (bytes " level ") lack.level ++ numbered (bytes " needed ") lack.needed ++ numbered (bytes " free ") lack.free

unfoldable pub short_text : Short → List ℕ
short_text short = numbered (bytes " level ") short.level ++ numbered (bytes " needed ") short.needed ++ numbered (bytes " held ") short.held

unfoldable pub slice_text : Slice → List ℕ
slice_text (Done swaps left) = swaps_text (bytes "done swaps ") swaps left
slice_text (NoRoom swaps left lack) = swaps_text (bytes "no room swaps ") swaps left ++ lack_text lack
slice_text (LogShort swaps left short) = swaps_text (bytes "log short swaps ") swaps left ++ short_text short
slice_text (Paused swaps left) = swaps_text (bytes "paused swaps ") swaps left

unfoldable pub refusal_text : Refusal → List ℕ
refusal_text refusal = numbered (bytes "refused ") (number refusal.fault) ++ numbered (bytes " place ") refusal.place

unfoldable pub answer_text : RunAnswer → List ℕ
answer_text (Ok slice) = slice_text slice
answer_text (Err refusal) = refusal_text refusal

unfoldable pub answer_line : RunAnswer → List ℕ
answer_line a = answer_text a ++ bytes "\n"

-- ---- the whole text

abbrev pub is_refused : RunAnswer → Bool
is_refused (Ok slice) = false
is_refused (Err refusal) = true

unfoldable pub plan_line : ℕ → List ℕ
plan_line plan = numbered (bytes "plan ") plan ++ bytes "\n"

unfoldable pub plan_text : RunAnswer → ℕ → List ℕ
plan_text a plan = cond (is_refused a) [] (plan_line plan)

-- `label` gives the text of each variable's label
unfoldable pub store_text : RunAnswer → (ℕ → List ℕ) → List ℕ → List ℕ → List ℕ → List ℕ
store_text a label t r o = cond (is_refused a) [] (listing label t r o)

unfoldable pub printed : ℕ → RunAnswer → (ℕ → List ℕ) → List ℕ → List ℕ → List ℕ → List ℕ
printed plan a label t r o = plan_text a plan ++ answer_line a ++ store_text a label t r o
