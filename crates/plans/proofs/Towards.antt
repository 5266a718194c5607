-- Orders of n variables as their own type: while order and target differ, a plan names an adjacent inverted pair.
use Rattle.std.specs.Prelude.{ℕ, false, ◌≡◌}
use Rattle.lists.specs.Says.{refutes}
use Rattle.orders.specs.Arranged.{bytes_of, Arranged, arranged_same_length}
use Rattle.orders.specs.declared.Order.{Order}
use Rattle.plans.specs.Inversions.{Adjacent}
use Rattle.plans.specs.Plans.{same?, Plan, Lawful}
use Rattle.plans.proofs.Plans.{same_says}

module _ {o g : Order} {n : ℕ} (h : Arranged o n) (i : Arranged g n) (d : same? (bytes_of o n) (bytes_of g n) ≡ false) where
  pub arranged_differ : bytes_of o n ≡ bytes_of g n → ⊥
  arranged_differ = refutes (same_says (bytes_of o n) (bytes_of g n) (arranged_same_length h i)) d

  pub arranged_adjacent : {plan : Plan} → Lawful plan → Adjacent (bytes_of o n) (bytes_of g n) (plan (bytes_of o n) (bytes_of g n))
  arranged_adjacent w =
      w.names_inversion (bytes_of o n) (bytes_of g n) h.permutation i.permutation (arranged_same_length h i) arranged_differ
