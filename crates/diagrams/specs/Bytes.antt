-- Every element of a list is a byte; two of them are a number of 16 bits.
use Rattle.std.specs.Prelude.{ℕ, ◌+◌, ◌<◌, List, get_or}
use Rattle.std.proofs.Common.{arith, Fits}
use Rattle.std.specs.Int.{w8}
use Rattle.diagrams.specs.Layout.{pair_at}

abbrev pub Bytes : List ℕ → Type 0
Bytes l = (k : ℕ) → Fits w8 (get_or l k 0)

pub pair_small : (l : List ℕ) (at : ℕ) → Bytes l → pair_at l at < 65536
pair_small l at b = omega (arith, (b at).fits, (b (at + 1)).fits)
