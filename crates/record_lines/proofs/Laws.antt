-- The label of a record, or nothing: one law for each way out, over plain variables.
use Prim.Native.Nat.{ℕ}
use mathlib.Core.List.{List}
use mathlib.Core.Path.{◌≡◌}
use borrow.Author.Rules.{rules}
use borrow.Author.Tests.{eq-eqb, ne_eqb}
use lib.ListN.{length}
use Rattle.diagrams.specs.Node.{free, node}
use Rattle.texts.specs.declared.Page.{Page}
use Rattle.texts.specs.Put.{Put, put_nothing, space_as, put_as}
use Rattle.record_lines.specs.Text.{label_line, label_text}

pub label_free : (label : ℕ → List ℕ) {p : Page} → Put p (label_text label free) p
unfolding label_text
label_free label = put_nothing

module _ (label : ℕ → List ℕ) {text : List ℕ} (v l h : ℕ) (is : text ≡ label v) where
  pub label_none : {p : Page} → length text ≡ 0 → Put p (label_text label (node v l h)) p
  unfolding label_text
  label_none e = rw (← is, eq-eqb (length text) 0 e) put_nothing

  pub label_there : (length text ≡ 0 → ⊥) → label_text label (node v l h) ≡ label_line text
  unfolding label_text
  label_there n = rw (← is, ne_eqb (length text) 0 n)

pub ruleset labelling = (space_as, put_as, label_free, label_none, label_there, rules)
