use Rattle.std.proofs.Common.{rules}
use Rattle.swap_names.proofs.Laws.{name_counts, name_passes}
use Rattle.swap_names.proofs.count_name.Goals as goal

pub returns-then-at-names : goal.returns-then-at-names
returns-then-at-names c = search (name_counts, rules)

pub returns-else-at-names : goal.returns-else-at-names
returns-else-at-names c = search (name_passes, rules)
