use Rattle.std.proofs.Common.{ℕ, ◌≡◌, ◌<◌, length, get_or}
use Rattle.classes.specs.Pass.{slots, Kept, Passing}
use Rattle.classes.proofs.pass.Given as goal

abbrev pub invariant-loop-i : goal.invariant-loop-i
invariant-loop-i g l = record {
  all_slots : length l.slot ≡ slots;
  kept : Kept l.fn.class l.class l.i;
  passing : (at : ℕ → ℕ) → ((i x : ℕ) → i < length l.fn.class → goal.F-post g l.place i (get_or l.fn.class i 0) x → x ≡ at i) → Passing at l.i l.class l.slot;
}
