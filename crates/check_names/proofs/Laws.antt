-- The marks of all that is named lead check 9 to what its test says.
use Rattle.std.specs.Prelude.{ℕ, ◌+◌, ◌≤◌, Option, List, ◌≡◌, replicate}
use Rattle.std.proofs.Common.{ap, ◌∙◌}
use Rattle.lists.specs.Found.{found}
use Rattle.lists.specs.Fold.{fold}
use Rattle.diagrams.specs.Layout.{most_records, records, root_count}
use Rattle.diagrams.specs.Noting.{no_notes}
use Rattle.check_names.specs.Names.{idle}
use Rattle.check_names.specs.Marks.{marked_root, marked_record, marks_of, unmarked, unmarked_idle}

pub mark_scan : (t r : List ℕ) {l₁ l₂ : List ℕ} {x : Option ℕ} → l₁ ≡ fold (marked_root r) (replicate (most_records + 2) 0) (root_count r)
    → l₂ ≡ fold (marked_record t) l₁ (records t) → x ≡ found (unmarked t l₂) (records t) → records t ≤ most_records → x ≡ found (idle t r) (records t)
unfolding marks_of no_notes
mark_scan t r p q f h =
    f ∙ ap (λ l. found (unmarked t l) (records t)) (q ∙ ap (λ l. fold (marked_record t) l (records t)) p)
    ∙ unmarked_idle t r h
