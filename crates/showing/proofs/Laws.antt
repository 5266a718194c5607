-- The laws that the code of Show is proved by.
use Prim.Native.Nat.{ℕ}
use mathlib.Core.List.{List}
use mathlib.Core.Bool.{Bool, true, false}
use mathlib.Core.Path.{◌≡◌, refl}
use Rattle.std.specs.Prelude.{Ok, Err}
use Rattle.std.specs.Result.{is_err}
use Rattle.lists.specs.Apart.{apart}
use Rattle.diagrams.specs.Node.{no_constant}
use Rattle.checks.specs.Stages.{Verdict, clear, verdict_of}
use Rattle.checks.specs.Check.{check_stages}
use borrow.Author.Rules.{rules}
use Rattle.parts.specs.Part.{Inside, Handed, no_part}
use Rattle.parts.specs.declared.Part.{Part}
use Rattle.showing.specs.Show.{part_of, ShowOutcome}
use Rattle.showing.proofs.Parts.{refused_part, no_root_part, constant_part, record_part, root_inside, record_ends, part_inside}

-- a verdict that is no refusal, and one that is
pub passed_by : {b : Bool} (v : Verdict) → b ≡ is_err v → b ≡ false → v ≡ clear
passed_by (Ok _) e h = refl
passed_by (Err w) e h = apart (cc)

pub refused_by : (t r o : List ℕ) (position : ℕ) {b : Bool} (v : Verdict) → v ≡ verdict_of (check_stages t r o) → b ≡ is_err v → b ≡ true
    → no_part ≡ part_of t r o position
refused_by t r o position (Ok _) f e h = apart (cc)
refused_by t r o position (Err w) f e h = refused_part t r o position f w refl

-- `search showing` answers what hangs on the part
pub ruleset showing = (passed_by, refused_by, no_root_part, constant_part, record_part, root_inside, record_ends, no_constant, rules)

module _ (t r o : List ℕ) (position : ℕ) {p : Part} (is : p ≡ part_of t r o position) where
  pub shown_inside : Inside p t
  shown_inside = rw is (part_inside t r o position)

  pub shown_handed : {table pointer : ℕ × ℕ} {bytes : List ℕ} → Handed p t table pointer bytes → ShowOutcome t r o position table pointer bytes
  shown_handed h = rw is at h

pub ruleset handing = (shown_inside, shown_handed, rules)
