-- The bucket of three numbers. Nothing is asked of it but that it is a bucket: a better mixture changes this line
-- and its code, and those who make tables by it: second/src/bucket.rs and bench/src/crowded.rs.
use Rattle.std.specs.Prelude.{ℕ, ◌+◌, ◌*◌, ◌/◌, ◌%◌}
use Rattle.diagrams.specs.Layout.{most_records}

abbrev pub buckets : ℕ
buckets = 2 * most_records

unfoldable pub mixed : ℕ → ℕ → ℕ → ℕ
mixed v a b = (v * 2246822519 + a * 2654435761 + b * 3266489917) / 262144 % buckets
