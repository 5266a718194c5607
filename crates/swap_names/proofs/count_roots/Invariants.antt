use Rattle.swap_names.specs.Naming.{named_root, Counting}
use Rattle.diagrams.specs.Layout.{root_count}
use Rattle.swap_names.proofs.count_roots.Given as goal

abbrev pub invariant-loop-k : goal.invariant-loop-k
invariant-loop-k l = Counting (named_root l.roots) l.fn.names (root_count l.roots) l.k l.names
