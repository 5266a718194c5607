-- The two lists of labels as one value of the code.
use Rattle.std.specs.Prelude.{ℕ, List}
use Rattle.labels.specs.declared.Lists.{Lists}
use Rattle.labels.specs.Label.{text_of}

-- the text of each variable's label
abbrev pub texts : Lists → ℕ → List ℕ
texts l = text_of l.site.now l.factory.now
