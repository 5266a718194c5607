-- Laws of what specs/Fitting.antt defines.
use Rattle.std.specs.Prelude.{ℕ, ◌≤◌, ◌<◌, true, false, List, ◌≢◌, ◌⊎◌, ◌≡◌, length}
use Rattle.std.proofs.Common.{inl, inr, ap, sym, ◌∙◌}
use Rattle.lists.specs.Says.{either_side}
use Rattle.lists.specs.Truth.{by}
use Rattle.diagrams.specs.Node.{Node, free, node, ref, look}
use Rattle.diagrams.specs.Edition.{Edition, bare, seen, seen_upright}
use Rattle.diagrams.specs.Levels.{free_node}
use Rattle.swap_rules.specs.Record.{is_of, UsedOf, of_true, of_other, of_free, Behind, behind}
use Rattle.swap_rules.specs.Swap.{grandchild, crosses, crossing}
use Rattle.swap_rules.proofs.Step.{grand_of, grand_self}
use Rattle.swap_rules.proofs.Opposites.{crosses_invert}
use Rattle.swap_rules.specs.Fitting.{Fitting}

module _ {E : Edition} {T : ℕ → Node} {N x y : ℕ} {roots : List ℕ} (R : Fitting E T N x y roots) where
  abbrev L : ℕ → Node
  L = seen E T

  pub in_table_lem : (i : ℕ) {v l h : ℕ} → T i ≡ node v l h → i < N
  in_table_lem i e = either_side i N (λ l. l) (λ l. free_node (R.past i l) e)

  -- a record by its own reference
  pub own_seen : (U : ℕ → Node) (i : ℕ) → i < N → seen E U (ref i) ≡ U i
  unfolding look
  own_seen U i l = seen_upright E U (ref i) (R.own i l)

  -- ---- which records cross

  -- the record behind q crosses as q does
  pub behind_crosses : (q i : ℕ) → bare E q ≡ ref i → crossing E T x y i ≡ crosses L x y q
  behind_crosses q i e = ap (crosses L x y) (sym e) ∙ crosses_invert E T x y q q

  pub free_stays : (r : ℕ) → L r ≡ free → crosses L x y r ≡ false
  unfolding crosses
  free_stays r e = rw (of_free x e)

  pub y_stays : (r : ℕ) → UsedOf y (L r) → crosses L x y r ≡ false
  unfolding crosses
  y_stays r u = rw (of_other x u.is (λ z. R.differ (sym z)))

  -- ---- what is seen on the high side through a reference that is not inverted is not inverted

  pub seen_high : (r v l h : ℕ) → E.inverted r ≡ false → L r ≡ node v l h → E.inverted h ≡ false
  seen_high r v l h n e =
      let m : Behind T r (node v l h) = behind T r (sym (seen_upright E T r n) ∙ e) in
      R.upright m.number v l h m.holds

  pub grand_high : (r : ℕ) → E.inverted r ≡ false → E.inverted (grandchild L y true r) ≡ false
  grand_high r n = go (by (is_of y (L r)))
    where
      go : (is_of y (L r) ≡ true) ⊎ (is_of y (L r) ≡ false) → E.inverted (grandchild L y true r) ≡ false
      go (inl t) =
          let u : UsedOf y (L r) = of_true y (L r) t in
          ap E.inverted (grand_of L y r u true) ∙ seen_high r y u.low u.high n u.is
      go (inr f) = ap E.inverted (grand_self L y r true f) ∙ n
