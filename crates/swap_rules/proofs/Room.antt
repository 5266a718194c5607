-- The two readings of room: no more records are used after the swap than the table has; needed is not above free plus dying.
use Rattle.std.specs.Prelude.{ℕ, ◌+◌, ◌-◌, ◌≤◌, ◌<◌, List, ◌≡◌, leb, length}
use Rattle.std.proofs.Common.{arith, ◌∙◌, length-append}
use Rattle.std.proofs.Math.Path.{sym}
use borrow.Author.Tests.{le-leb, lt-leb}
use Rattle.lists.specs.Count.{count_not}
use Rattle.lists.specs.Says.{either_side}
use Rattle.lists.specs.Which.{which_length}
use Rattle.diagrams.specs.Node.{Node}
use Rattle.diagrams.specs.Edition.{Edition}
use Rattle.swap_rules.specs.Record.{is_free_node}
use Rattle.swap_rules.specs.Swap.{needed, slots, free_count, used_count, dying_count, used_afterwards, fits}

-- a record is used or free
pub used_or_free : (T : ℕ → Node) (N : ℕ) → used_count T N + free_count T N ≡ N
unfolding used_count free_count
used_or_free T N = count_not (λ i. is_free_node (T i)) N

module _ (E : Edition) (T : ℕ → Node) (N x y : ℕ) (roots : List ℕ) where
  -- there are as many slots as free and dying records
  pub slots_count : length (slots E T N x y roots) ≡ free_count T N + dying_count E T N x y roots
  unfolding slots free_count dying_count
  slots_count = rw (length-append, which_length, which_length)

  abbrev Then : ℕ
  Then = used_afterwards E T N x y roots

  abbrev New : ℕ
  New = needed E T N x y

  abbrev Slots : ℕ
  Slots = free_count T N + dying_count E T N x y roots

  pub outnumbers : free_count T N + dying_count E T N x y roots < needed E T N x y → N < used_afterwards E T N x y roots
  unfolding used_afterwards
  outnumbers h = omega (arith, used_or_free T N)

  pub inside_table : needed E T N x y ≤ free_count T N + dying_count E T N x y roots → used_afterwards E T N x y roots ≤ N
  unfolding used_afterwards
  inside_table h = omega (arith, used_or_free T N)

  -- the two readings are one
  pub fits_slots : fits E T N x y roots ≡ leb (needed E T N x y) (free_count T N + dying_count E T N x y roots)
  unfolding fits
  fits_slots =
      either_side Slots New
      (λ h. lt-leb Then N (outnumbers h) ∙ sym (lt-leb New Slots h))
      (λ h. le-leb Then N (inside_table h) ∙ sym (le-leb New Slots h))
