-- The lines of a record as a list of bytes: what it holds, and the label of its variable.
-- docs/RULES.md, 8.2.
use Rattle.std.specs.Prelude.{ℕ, cond, List, [], ◌∷◌, ◌++◌, ◌≡◌, refl, eqb, length}
use Rattle.diagrams.specs.Node.{Node, free, node}
use Rattle.diagrams.specs.Decode.{node_at}
use Rattle.lists.specs.First.{first}
use Rattle.texts.specs.Text.{bytes, places, decimal, numbered, before_zero}

-- ---- a record: its number, then its variable, low and high reference, or that it is free

unfoldable pub content_text : Node → List ℕ
content_text free = bytes " free"
content_text (node variable low high) = numbered (bytes " ") variable ++ numbered (bytes " ") low ++ numbered (bytes " ") high

unfoldable pub record_line : ℕ → Node → List ℕ
record_line i m = decimal i ++ content_text m ++ bytes "\n"

-- ---- the label of a record: `label` gives the text of each variable's label, which is empty where the variable has none

-- a line of the text's bytes before its first zero
unfoldable pub label_line : List ℕ → List ℕ
label_line text = before_zero text ++ bytes "\n"

-- no line after a free record, nor after one whose variable has no label
unfoldable pub label_text : (ℕ → List ℕ) → Node → List ℕ
label_text label free = []
label_text label (node variable low high) = let text = label variable in cond (eqb (length text) 0) [] (label_line text)

-- an empty line for a text that begins with a zero
empty_line : label_text (λ v. 0 ∷ 53 ∷ 50 ∷ []) (node 7 0 1) ≡ bytes "\n"
unfolding before_zero label_line label_text
empty_line = refl

-- ---- both

unfoldable pub record_text : (ℕ → List ℕ) → List ℕ → ℕ → List ℕ
record_text label t i = let m = node_at t i in record_line i m ++ label_text label m

-- no line after a free record, though 255 has a label
no_line : record_text (λ v. 53 ∷ 50 ∷ []) (255 ∷ []) 0 ≡ bytes "0 free\n"
unfolding node_at first places decimal content_text record_line label_text record_text
no_line = refl
