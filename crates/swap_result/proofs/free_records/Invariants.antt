use Rattle.std.specs.Prelude.{length}
use Rattle.lists.specs.Fold.{Writes}
use Rattle.swap_result.specs.Image.{freed}
use Rattle.swap_result.proofs.free_records.Given as goal

abbrev pub invariant-loop-k : goal.invariant-loop-k
invariant-loop-k l = Writes (freed l.numbers) l.fn.image (length l.numbers) l.k l.image
