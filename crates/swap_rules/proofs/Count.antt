-- How many records a swap leaves used: those before, plus new, less dying.
use Rattle.std.specs.Prelude.{ℕ, ◌+◌, ◌<◌, Bool, true, false, List, ◌≡◌}
use Rattle.std.proofs.Common.{inl, inr, sym, ◌∙◌}
use Rattle.std.proofs.Math.Path.{ap}
use Rattle.lists.specs.Count.{bit, count, count_both}
use Rattle.lists.specs.Places.{count_places}
use Rattle.diagrams.specs.Node.{Node, free, node, ref}
use Rattle.diagrams.specs.Edition.{Edition, seen}
use Rattle.swap_rules.specs.Record.{is_free_node, is_used_node, UsedOf, free_false}
use Rattle.swap_rules.specs.Swap.{crossing, slots, dies, needed, slot_index, filled, record_after, dying_count, used_count}
use Rattle.swap_rules.specs.Step.{Open}
use Rattle.swap_rules.proofs.Step.{crosses_x}
use Rattle.swap_rules.specs.Fitting.{Fitting}
use Rattle.swap_rules.proofs.Fitting.{own_seen}
use Rattle.swap_rules.proofs.Dying.{dies_y, other_lives, free_lives}
use Rattle.swap_rules.proofs.Making.{slots_apart, slot_in}
use Rattle.swap_rules.specs.Computed.{Case, crosses_now, filled_now, dies_now, stays_now}
use Rattle.swap_rules.proofs.Computed.{case}
use Rattle.swap_rules.proofs.Computed.{after_crossed, after_gone, after_kept, filled_open, filled_used, unfilled}

used_bit : {m : Node} {v l h : ℕ} → m ≡ node v l h → bit (is_used_node m) ≡ 1
used_bit e = rw (free_false e)

free_bit : {m : Node} → m ≡ free → bit (is_used_node m) ≡ 0
unfolding is_free_node
free_bit e = rw e

-- as many records are filled as are needed
filled_count : {E : Edition} {T : ℕ → Node} {N x y : ℕ} {roots : List ℕ} → Fitting E T N x y roots → count (filled E T N x y roots) N ≡ needed E T N x y
unfolding filled slot_index
filled_count {E} {T} {N} {x} {y} {roots} R = count_places (slots E T N x y roots) (slots_apart R) N (slot_in R) (needed E T N x y) R.fit

module _ {E : Edition} {T : ℕ → Node} {N x y : ℕ} {roots : List ℕ} (R : Fitting E T N x y roots) where
  abbrev After : ℕ → Node
  After = record_after E T N x y roots

  abbrev Dies : ℕ → Bool
  Dies = dies E T N x y roots

  -- of one record: used afterwards and dying are used before and filled
  abbrev Balance : ℕ → Type 0
  Balance i = bit (is_used_node (After i)) + bit (Dies (ref i)) ≡ bit (is_used_node (T i)) + bit (filled E T N x y roots i)

  balance : (i : ℕ) → i < N → Balance i
  balance i l = go (case E T N x y roots i)
    where
      own : {m : Node} → seen E T (ref i) ≡ m → T i ≡ m
      own e = sym (own_seen R T i l) ∙ e

      slot : crossing E T x y i ≡ false → filled E T N x y roots i ≡ true → Open (seen E T) Dies (ref i) → Balance i
      slot f t (inl e) = rw (used_bit (filled_used R i f t).is, free_lives R (ref i) e, free_bit (own e), t)
      slot f t (inr d) = rw (used_bit (filled_used R i f t).is, d, used_bit (own (dies_y R (ref i) d).is), t)

      go : Case E T N x y roots i → Balance i
      go (crosses_now t) =
          let u : UsedOf x (seen E T (ref i)) = crosses_x (seen E T) x y (ref i) t in
          let d : Dies (ref i) ≡ false = other_lives R (ref i) u.is R.differ in
          rw (used_bit (after_crossed R i u.low u.high u.is t), d, used_bit (own u.is), unfilled R i (own u.is) d)
      go (filled_now f t) = slot f t (filled_open R i t)
      go (dies_now f g t) = rw (free_bit (after_gone R i f g t), t, used_bit (own (dies_y R (ref i) t).is), g)
      go (stays_now f g d) = rw (after_kept R i f g d, d, g)

  pub used_after : used_count After N + dying_count E T N x y roots ≡ used_count T N + needed E T N x y
  unfolding used_count dying_count
  used_after =
      count_both (λ i. is_used_node (After i)) (λ i. Dies (ref i)) (λ i. is_used_node (T i)) (filled E T N x y roots) N balance
      ∙ ap (λ m. count (λ i. is_used_node (T i)) N + m) (filled_count R)
