-- The share of c among 2 ^ n combinations, as a double.
-- docs/RULES.md, 3.
use Rattle.std.specs.Prelude.{ℕ, ◌^◌, false, pos, Float}
use Rattle.std.specs.Float.{binary64}
use Rattle.std.specs.Float.Ieee.{round, div, of_int, of_bits}

-- the most inputs whose combinations are counted; up to here counts, shares, the sum of two shares and its half are all exact as doubles
abbrev pub most_counted : ℕ
most_counted = 52

-- the double nearest to c / 2 ^ n
unfoldable pub share : ℕ → ℕ → Float
share c n = round binary64 false c (2 ^ n)

-- what dividing gives: c as a double by 2 ^ n as a double
unfoldable pub quotient : ℕ → ℕ → Float
quotient c n = div binary64 (of_int binary64 (pos c)) (of_int binary64 (pos (2 ^ n)))

-- the doubles 0, 1 and 2, by their bits
abbrev pub none : Float
none = of_bits binary64 0

abbrev pub all : Float
all = of_bits binary64 0x3ff0_0000_0000_0000

abbrev pub two : Float
two = of_bits binary64 0x4000_0000_0000_0000
