-- Each answer's text, the plan's line and the listing or nothing, and the whole text: one law for each way out, over plain variables.
use Prim.Native.Nat.{ℕ}
use mathlib.Core.Bool.{Bool, true, false}
use mathlib.Core.List.{List}
use mathlib.Core.Path.{◌≡◌, refl, ap, ◌∙◌}
use borrow.Author.Rules.{rules}
use lib.ListN.{get_or}
use Rattle.std.specs.Prelude.{Ok, Err}
use Rattle.std.specs.Result.{is_ok, is_err}
use Rattle.lists.specs.Apart.{apart}
use Rattle.runs.specs.Run.{RunAnswer}
use Rattle.runs.specs.declared.Slice.{Slice}
use Rattle.labels.specs.Label.{text_of}
use Rattle.job.specs.Job.{JobOutcome}
use Rattle.texts.specs.declared.Page.{Page}
use Rattle.texts.specs.Put.{Put, Space, put_printed, put_nothing, space_as, put_as}
use Rattle.listing.specs.Text.{listing}
use Rattle.program.specs.Text.{slice_text, answer_text, plan_line, plan_text, store_text, printed}
use Rattle.program.specs.Program.{text_with, Prints}
use Rattle.program.specs.Size.{text_space}

-- ---- an answer

pub slice_said : {a b : Slice} {text : List ℕ} → a ≡ b → slice_text b ≡ text → slice_text a ≡ text
slice_said e p = ap slice_text e ∙ p

pub answer_said : {a b : RunAnswer} {text : List ℕ} → a ≡ b → answer_text b ≡ text → answer_text a ≡ text
answer_said e p = ap answer_text e ∙ p

pub ruleset slicing = (space_as, put_as, slice_said, rules)

pub ruleset answering = (space_as, put_as, answer_said, rules)

-- ---- the plan's line and the listing, or nothing

pub plan_none : (a : RunAnswer) {b : Bool} (plan : ℕ) {x : Page} → b ≡ is_ok a → b ≡ false → Put x (plan_text a plan) x
unfolding plan_text
plan_none (Ok slice) plan e h = apart (cc)
plan_none (Err w) plan e h = put_nothing

pub plan_told : (a : RunAnswer) {b : Bool} (plan : ℕ) → b ≡ is_ok a → b ≡ true → plan_text a plan ≡ plan_line plan
unfolding plan_text
plan_told (Ok slice) plan e h = refl
plan_told (Err w) plan e h = apart (cc)

module _ (label : ℕ → List ℕ) (t r o : List ℕ) where
  pub store_none : (a : RunAnswer) {b : Bool} {x : Page} → b ≡ is_err a → b ≡ true → Put x (store_text a label t r o) x
  unfolding store_text
  store_none (Ok slice) e h = apart (cc)
  store_none (Err w) e h = put_nothing

  pub store_listed : (a : RunAnswer) {b : Bool} → b ≡ is_err a → b ≡ false → store_text a label t r o ≡ listing label t r o
  unfolding store_text
  store_listed (Ok slice) e h = refl
  store_listed (Err w) e h = apart (cc)

pub ruleset planning = (space_as, put_as, plan_none, plan_told, rules)

pub ruleset storing = (space_as, put_as, store_none, store_listed, rules)

-- ---- the text of the program

pub program_printed : (t r o g p s f : List ℕ) {a : RunAnswer} {t' o' x y : List ℕ} {n k : ℕ} {page page' : Page}
    → JobOutcome t r o g p a t' o' → k ≡ get_or p 0 0 → page.len ≡ 0 → page.bytes.now ≡ x → Put page (printed k a (text_of s f) t' r o') page'
    → Space page (printed k a (text_of s f) t' r o') → y ≡ page'.bytes.now → n ≡ page'.len → Prints t r o g p s f x y n
unfolding text_with
program_printed t r o g p s f e q none same put space is counts = rw (← e, ← q) (put_printed none same space put is counts)

pub ruleset printing = (text_space, program_printed, rules)
