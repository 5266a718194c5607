-- The text fits into the list that is lent for it.
use Rattle.std.specs.Prelude.{ℕ, ◌≤◌, List, ◌≡◌, length, Ok, Err}
use Rattle.std.proofs.Common.{zero-le, ap, arith, lit≤}
use Rattle.labels.specs.Label.{text_size, text_of}
use Rattle.labels.proofs.Texts.{text_short}
use Rattle.swap_ways.specs.declared.Lack.{Lack}
use Rattle.swap_ways.specs.declared.Short as swap
use Rattle.runs.specs.Run.{RunAnswer}
use Rattle.runs.specs.declared.Slice.TheVariants.{Done, NoRoom, LogShort, Paused}
use Rattle.texts.specs.Text.{bytes}
use Rattle.texts.specs.declared.Page.{Page}
use Rattle.texts.specs.Put.{Space}
use Rattle.texts.specs.Short.{Short, short, both_short, shorter, either_short, word_short, numbered_any}
use Rattle.listing.specs.Text.{listing}
use Rattle.diagrams.specs.Bytes.{Bytes}
use Rattle.listing.specs.Size.{listing_short}
use Rattle.program.specs.Text.{swaps_text, lack_text, short_text, slice_text, refusal_text, answer_text, answer_line, is_refused, plan_line, plan_text, store_text, printed}
use Rattle.program.specs.Program.{most_text, Held}

-- ---- the line of the plan: at most 27 bytes

plan_short : (a : RunAnswer) (plan : ℕ) → Short (plan_text a plan) 27
unfolding plan_text plan_line
plan_short a plan = either_short (is_refused a) (short zero-le) (both_short (numbered_any (bytes "plan ") _) (word_short (bytes "\n")))

-- ---- the line of the answer, without its end: at most 148 bytes

swaps_short : (word : List ℕ) (s l : ℕ) → Short word 16 → Short (swaps_text word s l) 64
unfolding swaps_text
swaps_short word s l h = short (omega (arith, (both_short (numbered_any word s) (numbered_any (bytes " left ") l)).most, h.most))

lack_short : (l : Lack) → Short (lack_text l) 84
unfolding lack_text
lack_short l = both_short (both_short (numbered_any (bytes " level ") _) (numbered_any (bytes " needed ") _)) (numbered_any (bytes " free ") _)

held_short : (l : swap.Short) → Short (short_text l) 84
unfolding short_text
held_short l = both_short (both_short (numbered_any (bytes " level ") _) (numbered_any (bytes " needed ") _)) (numbered_any (bytes " held ") _)

answer_short : (a : RunAnswer) → Short (answer_text a) 148
unfolding answer_text slice_text refusal_text
answer_short (Ok (Done s l)) = shorter 148 (swaps_short (bytes "done swaps ") s l (short (lit≤ tt))) tt
answer_short (Ok (NoRoom s l lack)) = both_short (swaps_short (bytes "no room swaps ") s l (short (lit≤ tt))) (lack_short lack)
answer_short (Ok (LogShort s l log)) = both_short (swaps_short (bytes "log short swaps ") s l (short (lit≤ tt))) (held_short log)
answer_short (Ok (Paused s l)) = shorter 148 (swaps_short (bytes "paused swaps ") s l (short (lit≤ tt))) tt
answer_short (Err w) = shorter 148 (both_short (numbered_any (bytes "refused ") _) (numbered_any (bytes " place ") _)) tt

-- ---- the whole text

store_short : (a : RunAnswer) (label : ℕ → List ℕ) (t r o : List ℕ) (m : ℕ) → Short (listing label t r o) m → Short (store_text a label t r o) m
unfolding store_text
store_short a label t r o m h = either_short (is_refused a) (short zero-le) h

-- t and o are what a run left in the buffers, as long as they were before; the page is empty
pub text_space : (plan : ℕ) (a : RunAnswer) (s f t r o : List ℕ) {t₀ o₀ out : List ℕ} {page : Page} → Held t₀ r o₀ → most_text ≤ length out
    → length t ≡ length t₀ → length o ≡ length o₀ → Bytes t → Bytes r → Bytes o → page.len ≡ 0 → page.bytes.now ≡ out
    → Space page (printed plan a (text_of s f) t r o)
unfolding printed answer_line
text_space plan a s f t r o h m p q bt br bo none same =
    let label = text_of s f in
    let store = store_short a label t r o _ (listing_short label text_size t r o (text_short s f) bt br bo (omega (arith, h.table))) in
    let whole = both_short (both_short (plan_short a plan) (both_short (answer_short a) (word_short (bytes "\n")))) store in
    record { fits = omega (arith, whole.most, h.table, h.roots, h.order, ap length same) }
