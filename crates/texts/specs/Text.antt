-- Words and decimal numbers as lists of bytes, and texts one after the other.
use Rattle.std.specs.Prelude.{ℕ, zero, suc, ◌^◌, List, [], ◌∷◌, ◌++◌, ◌≡◌, refl, ◌==◌, ltb}
use Rattle.std.specs.List.{before_first}
use Prim.Native.Char.{code}
use Prim.Native.String.{String}
use Prim.Native.String as string
use Rattle.io.specs.Digits.{last_digits}
use Rattle.lists.specs.First.{first}

-- a word's bytes
abbrev pub bytes : String → List ℕ
bytes string.[] = []
bytes (string.◌∷◌ c s) = code c ∷ bytes s

-- how many decimal digits a number of 64 bits takes: the fewest that hold it, and one for 0
unfoldable pub places : ℕ → ℕ
places n = suc (first (λ k. ltb n (10 ^ suc k)) 20)

unfoldable pub decimal : ℕ → List ℕ
decimal n = last_digits 10 (places n) n

-- a word and the number that follows it
unfoldable pub numbered : List ℕ → ℕ → List ℕ
numbered word n = word ++ decimal n

-- the bytes of a text before its first zero; all of them where it has none
unfoldable pub before_zero : List ℕ → List ℕ
before_zero text = before_first (λ b. b == 0) text

-- the texts f 0 to f (n - 1), one after the other
unfoldable pub in_turn : (ℕ → List ℕ) → ℕ → List ℕ
in_turn f zero = []
in_turn f (suc n) = in_turn f n ++ f n

-- the largest number of 64 bits
largest : decimal 18446744073709551615 ≡ bytes "18446744073709551615"
unfolding first places decimal
largest = refl

-- a text that ends at its first zero, one that fills its place, and one that begins with a zero
zeros : before_zero (53 ∷ 50 ∷ 0 ∷ 97 ∷ 0 ∷ []) ≡ bytes "52"
unfolding before_zero
zeros = refl

full : before_zero (53 ∷ 50 ∷ 97 ∷ []) ≡ bytes "52a"
unfolding before_zero
full = refl

empty : before_zero (0 ∷ 53 ∷ 50 ∷ []) ≡ []
unfolding before_zero
empty = refl
