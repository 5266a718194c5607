-- Laws of writing an answer, over plain variables.
use Prim.Native.Nat.{ℕ, ◌≤◌, ◌<◌}
use mathlib.Core.List.{List}
use mathlib.Core.Path.{◌≡◌}
use borrow.Author.Tests.{lt-ltb, le-ltb}
use borrow.Rule.Slice.PartMut.{put_mid}
use borrow.Author.Rules.{rules}
use lib.ListN.{length}
use Rattle.relay_numbers.specs.Written.{wrote, written}

pub too_short : (numbers list : List ℕ) → length list < length numbers → wrote 0 list ≡ written list numbers
unfolding written
too_short numbers list h = rw (lt-ltb (length list) (length numbers) h)

-- they were copied over the list's front
pub written_all : (numbers list : List ℕ) {ys : List ℕ} → ys ≡ numbers → length numbers ≤ length list
    → wrote (length numbers) (put_mid 0 (length numbers) list ys) ≡ written list numbers
unfolding written
written_all numbers list e h = rw (le-ltb (length list) (length numbers) h, e)

pub ruleset writing = (too_short, written_all, rules)
