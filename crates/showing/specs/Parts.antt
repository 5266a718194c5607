-- When Show hands back an empty part, and which part otherwise.
use Rattle.std.specs.Prelude.{ℕ, ◌+◌, ◌-◌, ◌*◌, ◌≤◌, ◌<◌, Bool, List, [], ◌⊎◌, ◌≡◌, length, Ok, Err}
use Rattle.std.proofs.Math.Bool.{true, false}
use Rattle.std.proofs.Common.{inl, inr, sym, ◌∙◌, lt_of_not-le, arith}
use Rattle.std.proofs.Math.Path.{refl, ap}
use borrow.Author.Tests.{lt-ltb, le-ltb, le-leb, lt-leb, ltb-true, ltb-false}
use Rattle.std.proofs.Math.Dec.{ltb}
use Rattle.diagrams.specs.Layout.{root_count, root_at, InTable}
use Rattle.diagrams.specs.Node.{Constant, ref}
use Rattle.parts.specs.Part.{no_part}
use Rattle.checks.specs.Check.{used, check_of}
use Rattle.checks.specs.declared.Refusal.{Refusal}
use Rattle.showing.specs.Show.{part_at, part_of}

-- ---- each case

-- a refused table, no such root, or a constant root
pub data Nothing (t r o : List ℕ) (position : ℕ) : Type 0 where
  refused_table : (w : Refusal) → check_of t r o ≡ Err w → Nothing t r o position
  no_such_root : root_count r ≤ position → Nothing t r o position
  constant_root : Constant (root_at r position) → Nothing t r o position

-- the root names record i, which lies in the table
pub record Something (t r o : List ℕ) (position : ℕ) : Type 0 where
  pub accepted : check_of t r o ≡ Ok (used t)
  pub there : position < root_count r
  pub i : ℕ
  pub names : ref i ≡ root_at r position
  pub inside : InTable t i

pub data Shown (t r o : List ℕ) (position : ℕ) : Type 0 where
  nothing : Nothing t r o position → part_of t r o position ≡ no_part → Shown t r o position
  something : (s : Something t r o position) → part_of t r o position ≡ part_at s.i → Shown t r o position
