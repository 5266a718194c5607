-- A word copied to its place, a number's digits, and a text up to its first zero, over plain variables.
use Prim.Native.Nat.{ℕ, ◌+◌, ◌-◌, ◌≤◌}
use mathlib.Core.List.{List, ◌++◌}
use mathlib.Core.Path.{◌≡◌, refl, ap, sym, ◌∙◌}
use native.Mathlib.Omega.{arith}
use mir.Syntax.{w64}
use mir.Val.{Fits}
use borrow.Author.Rules.{rules}
use lib.ListN.{length, take}
use borrow.Rule.Slice.Mut.{set_vals}
use borrow.Rule.Slice.PartMut.{put_mid, mid_len, same_len_mid}
use Rattle.std.proofs.lemmas.Slice.{take-put_mid, drop-put_mid}
use Rattle.texts.specs.declared.Page.{Page}
use Rattle.io.specs.Digits.{last_digits, IsDigitCount}
use Rattle.std.specs.Prelude.{Option, ◌==◌, position}
use Rattle.std.specs.Option.{unwrap_or}
use Rattle.std.specs.List.{position_or_len}
use Rattle.std.proofs.lemmas.List.Sums.{prefix_len-le-length}
use Rattle.std.proofs.Common.{lt-ltb, le-ltb}
use Rattle.lists.specs.Says.{either_side}
use Rattle.texts.specs.Text.{decimal, before_zero}
use Rattle.texts.specs.Short.{decimal_is}
use Rattle.texts.specs.Put.{Put, Space, space_as, put_as}

pub word_put : (p : Page) (word : List ℕ) {ys : List ℕ} → ys ≡ word → Space p word
    → Put p word (record { bytes = set_vals (put_mid p.len (p.len + length word - p.len) p.bytes.now ys) p.bytes; len = p.len + length word })
word_put p word {ys} e h =
    let old = p.bytes.now in
    let width : p.len + length word - p.len ≡ length word = omega arith in
    let long : length ys ≡ length word = ap length e in
    let within : p.len ≤ length old = omega (arith, h.fits) in
    record {
      memory = refl;
      same = same_len_mid p.len _ old ys (long ∙ sym (mid_len p.len (p.len + length word) old h.fits ∙ width));
      moved = refl;
      written = take-put_mid p.len _ old ys _ (omega arith) within ∙ ap (λ l. take p.len old ++ l) e;
      behind = drop-put_mid p.len _ old ys _ (omega arith) within (omega arith);
    }

-- d begins with the k digits of n, the fewest that hold it
pub spelt : (d : List ℕ) (k n : ℕ) → Fits w64 n → IsDigitCount 10 1 n k → take k d ≡ last_digits 10 k n → decimal n ≡ take k d
spelt d k n fits fewest e = sym (e ∙ decimal_is n k fits.fits fewest)

pub ruleset spelling = (space_as, put_as, spelt, rules)

-- ---- the bytes before the first zero

pub cut_at_zero : (text : List ℕ) {o : Option ℕ} {n : ℕ} → o ≡ position (λ b. b == 0) text → n ≡ unwrap_or o (length text) → before_zero text ≡ take n text
unfolding before_zero
cut_at_zero text e h =
    let m = position_or_len (λ b. b == 0) text in
    let within : m ≤ length text = prefix_len-le-length _ text in
    let cut : unwrap_or (position (λ b. b == 0) text) (length text) ≡ m =
    either_side m (length text)
    (λ l. rw (lt-ltb m (length text) l))
    (λ l. let same : length text ≡ m = omega arith in rw (le-ltb m (length text) l) same) in
    ap (λ k. take k text) (sym (h ∙ ap (λ o. unwrap_or o (length text)) e ∙ cut))

pub ruleset cutting = (space_as, put_as, cut_at_zero, rules)
