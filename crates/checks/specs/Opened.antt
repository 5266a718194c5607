-- The checks of a table, to be computed: `unfolding opened_stages` opens every test that they are made of.
use Rattle.std.specs.Prelude.{ℕ, List}
use Rattle.diagrams.specs.References.{names_record, dead}
use Rattle.diagrams.specs.Noting.{root_names, record_names}
use Rattle.orders.specs.Permutation.{holds_at, level_of}
use Rattle.check_sizes.specs.Sizes.{bad_sizes}
use Rattle.check_permutation.specs.BadPlace.{bad_place}
use Rattle.check_malformed.specs.Malformed.{malformed}
use Rattle.check_levels.specs.Levels.{not_under, not_below}
use Rattle.check_equal.specs.Equal.{low_is_high}
use Rattle.check_repeats.specs.Repeats.{same_record, repeats}
use Rattle.check_roots.specs.Roots.{dead_root}
use Rattle.check_names.specs.Names.{idle}
use Rattle.checks.specs.Stages.{Stage, only, verdict_from}
use Rattle.checks.specs.Check.{table_stages}

unfoldable pub opened_stages : List ℕ → List ℕ → List ℕ → List Stage
unfolding table_stages only verdict_from bad_sizes bad_place holds_at level_of names_record dead malformed not_under not_below low_is_high same_record repeats
    dead_root root_names record_names idle
opened_stages = table_stages
