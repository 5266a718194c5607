-- The outputs that the bench sheet spells out, computed from the definitions.
use Rattle.std.specs.Prelude.{ℕ, ◌-◌, List, [], ◌∷◌, ◌++◌, ◌≡◌, refl, length, replicate, Ok, Err}
use Rattle.lists.specs.First.{first}
use Rattle.lists.specs.Found.{found}
use Rattle.diagrams.specs.Decode.{node_at}
use Rattle.checks.specs.Stages.{refusal}
use Rattle.labels.specs.Label.{text_size, bad_length, names, label_of, text_of}
use Rattle.swap_ways.specs.Ways.{lack, short}
use Rattle.checks.specs.declared.Fault.TheVariants.{Malformed}
use Rattle.runs.specs.declared.Slice.TheVariants.{Done, NoRoom, LogShort}
use Rattle.sheet.specs.Sheet.{outcome}
use Rattle.job.specs.Job.{job_with}
use Rattle.texts.specs.Text.{bytes, places, decimal, numbered, before_zero, in_turn}
use Rattle.record_lines.specs.Text.{content_text, record_line, label_line, label_text, record_text}
use Rattle.listing.specs.Text.{variable_text, order_line, root_text, roots_line, listing}
use Rattle.program.specs.Text.{swaps_text, lack_text, short_text, slice_text, refusal_text, answer_text, answer_line, plan_line, plan_text, store_text, printed}
use Rattle.program.specs.Program.{text_with}

-- case A: the bytes of trip.nod, trip.rts, trip.ord, trip.tgt
nod : List ℕ
nod = 1 ∷ 0 ∷ 0 ∷ 0 ∷ 1 ∷ 0 ∷ 0 ∷ 0 ∷ 0 ∷ 0 ∷ 0 ∷ 0 ∷ 2 ∷ 0 ∷ 0 ∷ 0 ∷ 255 ∷ 0 ∷ 0 ∷ 0 ∷ 0 ∷ 0 ∷ 0 ∷ 0 ∷ []

rts : List ℕ
rts = 3 ∷ 0 ∷ []

ord : List ℕ
ord = 0 ∷ 1 ∷ []

tgt : List ℕ
tgt = 1 ∷ 0 ∷ []

-- a log of 8 records, empty; the program's has 4,096, of which a computed example would be long
log : List ℕ
log = replicate 128 0

-- trip.pln
pln : List ℕ
pln = 0 ∷ []

case_A : text_with log nod rts ord tgt pln [] [] ≡ bytes "plan 0\ndone swaps 1 left 0\norder 1 0\n0 free\n1 1 0 4\n2 0 0 1\nroots 3\n"
unfolding log nod rts ord tgt pln outcome first found places decimal numbered before_zero in_turn variable_text order_line node_at
    content_text record_line label_line label_text record_text root_text roots_line listing swaps_text slice_text refusal_text answer_text
    answer_line plan_line plan_text store_text
    printed bad_length names label_of text_of job_with text_with
case_A = refl

-- case A with labels: the factory's for both inputs, and the site's own for input 1
padded : List ℕ → List ℕ
padded word = word ++ replicate (text_size - length word) 0

lbs : List ℕ
lbs = 1 ∷ padded (bytes "87G picked up")

lbf : List ℕ
lbf = (0 ∷ padded (bytes "52a closed")) ++ (1 ∷ padded (bytes "input 2"))

labelled : text_with log nod rts ord tgt pln lbs lbf
    ≡ bytes "plan 0\ndone swaps 1 left 0\norder 1 0\n0 free\n1 1 0 4\n87G picked up\n2 0 0 1\n52a closed\nroots 3\n"
unfolding log nod rts ord tgt pln lbs lbf padded outcome first found places decimal numbered before_zero in_turn variable_text order_line node_at
    content_text record_line label_line label_text record_text root_text roots_line listing swaps_text slice_text refusal_text answer_text
    answer_line plan_line plan_text
    store_text printed bad_length names label_of text_of job_with text_with
labelled = refl

-- the line of another plan
plan_2 : plan_text (Ok (Done 1 0)) 2 ≡ bytes "plan 2\n"
unfolding first places decimal numbered plan_line plan_text
plan_2 = refl

-- a number that no plan has, and a file that isn't one byte
no_plan_lem : text_with log nod rts ord tgt (200 ∷ []) [] [] ≡ bytes "refused 13 place 200\n"
unfolding log nod rts ord tgt outcome first found places decimal numbered slice_text refusal_text answer_text answer_line plan_line plan_text
    store_text printed job_with text_with
no_plan_lem = refl

empty_plan : text_with log nod rts ord tgt [] [] [] ≡ bytes "refused 13 place 0\n"
unfolding log nod rts ord tgt outcome first found places decimal numbered slice_text refusal_text answer_text answer_line plan_line plan_text
    store_text printed job_with text_with
empty_plan = refl

no_room : answer_text (Ok (NoRoom 0 1 (lack 0 1 0))) ≡ bytes "no room swaps 0 left 1 level 0 needed 1 free 0"
unfolding first places decimal numbered swaps_text lack_text slice_text refusal_text answer_text
no_room = refl

log_short : answer_text (Ok (LogShort 0 1 (short 0 4 3))) ≡ bytes "log short swaps 0 left 1 level 0 needed 4 held 3"
unfolding first places decimal numbered swaps_text short_text slice_text refusal_text answer_text
log_short = refl

refused : (plan : ℕ) (label : ℕ → List ℕ) (t r o : List ℕ) → printed plan (Err (refusal Malformed 2)) label t r o ≡ bytes "refused 4 place 2\n"
unfolding first places decimal numbered slice_text refusal_text answer_text answer_line plan_line plan_text store_text printed
refused plan label t r o = refl

no_roots : roots_line [] ≡ bytes "roots\n"
unfolding in_turn roots_line
no_roots = refl
