-- One more read into the part of a buffer that is not filled yet.
use Rattle.std.proofs.Common.{◌≡◌, ℕ, ◌+◌, ◌≤◌, List, ◌++◌, length, take, sym, ap, ap₂, subst, ◌∙◌, le_refl, drop_at, length-take-le}
use Rattle.std.proofs.Math.Seq.{take-add}
use Rattle.std.proofs.lemmas.List.{take-append-le}
use Rattle.std.proofs.lemmas.Slice.{take-put_mid_below}
use Rattle.std.proofs.KnownBytes.{Consumes-trans}
use Rattle.std.specs.declared.option.Option.{Option}
use Rattle.std.specs.Io.KnownBytes.{Consumes}
use borrow.Rule.Slice.PartMut.{put_mid, post_of}

-- what was read into the part stands after what stood before it
take_put_part : (a k n : ℕ) (xs ys : List ℕ) → a ≤ length xs → n ≤ length ys → take (a + n) (put_mid a k xs ys) ≡ take a xs ++ take n ys
take_put_part a k n xs ys within fits =
    take-add a n (put_mid a k xs ys)
    ∙ ap₂ (λ (l m : List ℕ). l ++ m)
    (take-put_mid_below a k xs ys a (le_refl a) within)
    (ap (take n) (drop_at (take a xs) (ys ++ post_of a k xs) a (length-take-le a xs within)) ∙ take-append-le n ys (post_of a k xs) fits)

pub read_on : (before mid after : Option (List ℕ)) (a k n : ℕ) (xs ys : List ℕ) → a ≤ length xs → n ≤ length ys
    → Consumes before mid (take a xs) → Consumes mid after (take n ys) → Consumes before after (take (a + n) (put_mid a k xs ys))
read_on before mid after a k n xs ys within fits first second =
    subst (Consumes before after) (sym (take_put_part a k n xs ys within fits)) (Consumes-trans before mid after (take a xs) (take n ys) first second)
