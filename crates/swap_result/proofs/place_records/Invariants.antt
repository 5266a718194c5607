use Rattle.std.specs.Prelude.{length}
use Rattle.lists.specs.Fold.{Writes}
use Rattle.swap_result.specs.Image.{placed}
use Rattle.swap_result.proofs.place_records.Given as goal

abbrev pub invariant-loop-k : goal.invariant-loop-k
invariant-loop-k l = Writes (placed l.v.0 l.children l.numbers) l.fn.image (length l.children) l.k l.image
