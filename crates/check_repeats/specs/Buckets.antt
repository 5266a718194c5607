-- The bucket of a record: by its variable, low and high; free records have one of their own, in which none looks.
use Rattle.std.specs.Prelude.{ℕ, cond, List, ◌≡◌, eqb}
use Rattle.std.proofs.Common.{sym}
use Rattle.diagrams.specs.Layout.{variable_at, low_at, high_at}
use Rattle.chains.specs.Mixed.{buckets, mixed}
use Rattle.chains.specs.Walk.{Only}
use Rattle.check_repeats.specs.Repeats.{same_record, same_says}

unfoldable pub bucket_of : ℕ → ℕ → ℕ → ℕ
bucket_of v a b = cond (eqb v 255) buckets (mixed v a b)

abbrev pub bucket_at : List ℕ → ℕ → ℕ
bucket_at t i = bucket_of (variable_at t i) (low_at t i) (high_at t i)

-- records that are the same lie in the same bucket
pub same_bucket : (t : List ℕ) (i : ℕ) {b : ℕ} → b ≡ bucket_at t i → Only (same_record t i) (bucket_at t) b
same_bucket t i p = record { lies = λ j e. let s = (same_says t i j).yes e in rw (s.0.0, s.0.1, s.1) (sym p) }
