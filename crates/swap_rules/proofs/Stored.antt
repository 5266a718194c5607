-- Laws of what specs/Stored.antt defines.
use Prim.Native.Nat.{ℕ, zero, suc, ◌+◌, ◌≤◌, ◌<◌}
use Rattle.std.proofs.Common.{arith, ap, sym, ◌∙◌, leb-true}
use Rattle.std.specs.Prelude.{true, false, List, ◌≢◌, ◌≡◌, length, get_or}
use Rattle.std.proofs.Math.Path.{refl, fun_ext}
use Rattle.std.proofs.Math.ListN.{get_or-eq_default}
use Rattle.lists.specs.Tabulate.{length_tabulate, get_d_tabulate}
use Rattle.lists.specs.Says.{either_side}
use Rattle.diagrams.specs.Node.{Node, free, at, ref, look}
use Rattle.diagrams.specs.Levels.{free_node}
use Rattle.diagrams.specs.Edition.{Edition, plain, bare, turned, seen, bare_upright}
use Rattle.orders.specs.Permutation.{Permutation, level_of, level_of_at, at_level_of, same_place}
use Rattle.orders.specs.Exchange.{exchange, exchange_upper, exchange_lower, exchange_other}
use Rattle.swap_rules.specs.Swap.{x_at, y_at, record_after, swapped}
use Rattle.swap_rules.proofs.Room.{slots_count, fits_slots}
use Rattle.swap_rules.specs.Step.{Levels}
use Rattle.swap_rules.specs.Fitting.{Fitting}
use Rattle.swap_rules.proofs.Computed.{after_past, after_upright}
use Rattle.swap_rules.specs.Stored.{SwapFits, Written}

-- ---- the order

-- step 4, the exchange of two bytes of the order: the levels of x and y change places, and no other one changes
pub exchange_levels : (ord : List ℕ) (k : ℕ) → Permutation ord → k + 1 < length ord
    → Levels (level_of ord) (level_of (exchange ord k)) (length ord) k (x_at ord k) (y_at ord k)
exchange_levels ord k P b = record {
  pair_inside = b;
  index_x = level_of_at ord k P (omega arith);
  index_y = level_of_at ord (k + 1) P b;
  index'_x = exchange_upper ord k P b;
  index'_y = exchange_lower ord k P b;
  others = exchange_other ord k P b;
  injective = λ v w l e.
      let m : level_of ord w < length ord = rw e at l in
      sym (at_level_of ord v l) ∙ ap (λ (i : ℕ). get_or ord i 0) e ∙ at_level_of ord w m;
}

pair_differs : (ord : List ℕ) (k : ℕ) → Permutation ord → k + 1 < length ord → x_at ord k ≢ y_at ord k
pair_differs ord k P b e = let z : k ≡ k + 1 = same_place ord k (k + 1) P (omega arith) b e in omega arith

-- nothing, in the plain edition
pub plain_written : (t : List Node) → Written plain t
plain_written t = record { own = λ i l. refl; upright = λ i v l h e. refl }

-- there are slots enough, as needed is not above free plus dying
pub fitting : {E : Edition} {t : List Node} {roots ord : List ℕ} {k : ℕ} → SwapFits E t roots ord k
    → Fitting E (at t) (length t) (x_at ord k) (y_at ord k) roots
fitting {E} {t} {roots} {ord} {k} S = record {
  differ = pair_differs ord k S.order S.level;
  past = λ i l. get_or-eq_default t free l;
  own = S.written.own;
  upright = S.written.upright;
  fit = rw (slots_count E (at t) (length t) (x_at ord k) (y_at ord k) roots) (leb-true _ _ (sym (fits_slots E (at t) (length t) _ _ roots) ∙ S.fit));
}

module _ (E : Edition) (t : List Node) (x y : ℕ) (roots : List ℕ) where
  abbrev After : ℕ → Node
  After = record_after E (at t) (length t) x y roots

  pub length_swapped : length (swapped E t x y roots) ≡ length t
  unfolding swapped
  length_swapped = length_tabulate (length t) After

  pub swapped_in : (i : ℕ) → i < length t → at (swapped E t x y roots) i ≡ After i
  unfolding swapped
  swapped_in i l = get_d_tabulate (length t) After i free l

  swapped_past : (i : ℕ) → length t ≤ i → at (swapped E t x y roots) i ≡ free
  swapped_past i l = let h : length (swapped E t x y roots) ≤ i = rw length_swapped l in get_or-eq_default (swapped E t x y roots) free h

  module _ (R : Fitting E (at t) (length t) x y roots) where
    swapped_at : (i : ℕ) → E.inverted (ref i) ≡ false → at (swapped E t x y roots) i ≡ After i
    swapped_at i n = either_side i (length t) (swapped_in i) (λ l. swapped_past i l ∙ sym (after_past R i l n))

    swapped_look : (q : ℕ) → E.inverted q ≡ false → look (at (swapped E t x y roots)) q ≡ look After q
    unfolding look
    swapped_look zero n = refl
    swapped_look (suc zero) n = refl
    swapped_look (suc (suc i)) n = swapped_at i n

    pub swapped_seen : seen E (at (swapped E t x y roots)) ≡ seen E After
    swapped_seen = fun_ext (λ r. ap (turned E (E.inverted r)) (swapped_look (bare E r) (bare_upright E r)))

    pub swapped_written : Written E (swapped E t x y roots)
    swapped_written = record {
      own = λ i l. R.own i (rw length_swapped at l);
      upright = λ i v l h e.
          either_side i (length t)
          (λ b. after_upright R i v l h b (sym (swapped_in i b) ∙ e))
          (λ b. free_node (swapped_past i b) e);
    }
