-- Laws of what specs/Dying.antt defines.
use Prim.Native.Nat.{ℕ}
use Rattle.std.specs.Prelude.{Bool, ◌&&◌, ◌||◌, List, ◌≢◌, ◌⊎◌, ◌≡◌, length, get_or}
use Rattle.std.proofs.Math.Bool.{true, false, not, or-true}
use Rattle.std.proofs.Common.{inl, inr, ⊎_elim, ◌∙◌, eqb-true, eq-eqb}
use Rattle.std.proofs.Math.Path.{refl, ap}
use Rattle.std.proofs.Math.Dec.{eqb}
use Rattle.std.proofs.lemmas.Bool.{not-true}
use Rattle.lists.specs.First.{any}
use Rattle.lists.specs.Says.{Says, Some, says_itself, says_any, says_eqb, says_not, says_and, refutes, denies, decided}
use Rattle.lists.specs.Truth.{clash, and_left, and_right, and_both, or_cases, true_not}
use Rattle.diagrams.specs.Node.{Node, free, node, pick, ref}
use Rattle.diagrams.specs.Edition.{Edition, invert, bare, one_record, turned, seen, Rooted, bare_opposite, seen_opposite, bare_invert, pick_invert, bare_one}
use Rattle.diagrams.specs.Diagram.{Named}
use Rattle.diagrams.specs.Levels.{free_node}
use Rattle.swap_rules.specs.Record.{low_of, high_of, is_free_node, is_used_node, is_of, UsedOf, of_true, of_node, of_other, Behind}
use Rattle.swap_rules.specs.Swap.{crosses, crossing, still_names, dies}
use Rattle.swap_rules.proofs.Opposites.{of_turned, crosses_opposite, behind_seen}
use Rattle.swap_rules.specs.Fitting.{Fitting}
use Rattle.swap_rules.proofs.Fitting.{in_table_lem, own_seen, behind_crosses}
use Rattle.swap_rules.specs.Dying.{StillNamed}

module _ {E : Edition} {T : ℕ → Node} {N x y : ℕ} {roots : List ℕ} (R : Fitting E T N x y roots) where
  abbrev L : ℕ → Node
  L = seen E T

  abbrev StillNames : ℕ → ℕ → Bool
  StillNames = still_names E T x y

  -- record j names the record of r: r itself by its own reference, or by the opposite of it
  named_by_lem : (r j v l h : ℕ) (c : Bool) → T j ≡ node v l h → crossing E T x y j ≡ false → bare E (pick c l h) ≡ bare E r → StillNamed L x y r
  named_by_lem r j v l h c e f z = go (bare_one E (pick c l h) r z)
    where
      is : L (ref j) ≡ node v l h
      is = own_seen R T j (in_table_lem R j e) ∙ e

      go : (pick c l h ≡ r) ⊎ ((b : ℕ) × (E.inverted b ≡ true) × (E.opposite (pick c l h) ≡ r)) → StillNamed L x y r
      go (inl p) = (record { parent = ref j; variable = v; low = l; high = h; is = is; side = c; names = p }, f)
      go (inr p) = (
        record {
          parent = E.opposite (ref j);
          variable = v;
          low = E.opposite l;
          high = E.opposite h;
          is = seen_opposite E p.0 p.1 T (ref j) ∙ ap (turned E true) is;
          side = c;
          names = pick_invert E true c l h ∙ p.2;
        },
        crosses_opposite E p.0 p.1 T x y (ref j) ∙ f,
      )

  still_names_then : (r j : ℕ) → StillNames r j ≡ true → StillNamed L x y r
  unfolding still_names is_free_node low_of high_of
  still_names_then r j t = go (T j) refl (and_right (is_used_node (T j) && not (crossing E T x y j)) _ t)
    where
      u : (is_used_node (T j) && not (crossing E T x y j)) ≡ true
      u = and_left (is_used_node (T j) && not (crossing E T x y j)) _ t

      f : crossing E T x y j ≡ false
      f = not-true _ (and_right (is_used_node (T j)) _ u)

      by_side : (v l h : ℕ) → T j ≡ node v l h → (one_record E l r ≡ true) ⊎ (one_record E h r ≡ true) → StillNamed L x y r
      by_side v l h e (inl z) = named_by_lem r j v l h false e f (eqb-true _ _ z)
      by_side v l h e (inr z) = named_by_lem r j v l h true e f (eqb-true _ _ z)

      go : (m : Node) → T j ≡ m → (one_record E (low_of m) r || one_record E (high_of m) r) ≡ true → StillNamed L x y r
      go free e k = clash (and_left (is_used_node (T j)) _ u) (rw e)
      go (node v l h) e k = by_side v l h e (or_cases (one_record E l r) (one_record E h r) k)

  still_names_if : (r j v l h : ℕ) (c : Bool) → T j ≡ node v l h → crossing E T x y j ≡ false → bare E (pick c l h) ≡ bare E r → StillNames r j ≡ true
  unfolding still_names is_free_node low_of high_of
  still_names_if r j v l h c e f k =
      let p : is_used_node (T j) ≡ true = rw e in
      let q : (one_record E (low_of (T j)) r || one_record E (high_of (T j)) r) ≡ true = rw e (go c k) in
      and_both (and_both p (true_not f)) q
    where
      go : (c : Bool) → bare E (pick c l h) ≡ bare E r → (one_record E l r || one_record E h r) ≡ true
      go true k = rw (eq-eqb (bare E h) (bare E r) k) (or-true (one_record E l r))
      go false k = rw (eq-eqb (bare E l) (bare E r) k)

  says_still_named : (r : ℕ) → Says (any (StillNames r) N) (StillNamed L x y r)
  says_still_named r = record { yes = λ e. still_names_then r _ (s.yes e).holds; no = λ m. s.no (there m.0 m.1) }
    where
      s : Says (any (StillNames r) N) (Some (λ j. StillNames r j ≡ true) N)
      s = says_any _ N (λ j. StillNames r j ≡ true) (λ j. says_itself _)

      there : (m : Named L r) → crosses L x y m.parent ≡ false → Some (λ j. StillNames r j ≡ true) N
      there m f =
          let u : Bool = E.inverted m.parent in
          let b : Behind T (bare E m.parent) (node m.variable (invert E u m.low) (invert E u m.high)) = behind_seen E T m.parent m.is in
          let one : bare E (pick m.side (invert E u m.low) (invert E u m.high)) ≡ bare E r =
          ap (bare E) (pick_invert E u m.side m.low m.high) ∙ bare_invert E m.parent _ ∙ ap (bare E) m.names in
          record {
            index = b.number;
            below = in_table_lem R b.number b.holds;
            holds = still_names_if r b.number _ _ _ m.side b.holds (behind_crosses R m.parent b.number b.is ∙ f) one;
          }

  -- by either reference of a record
  still_names_one : (q r : ℕ) → bare E q ≡ bare E r → StillNames q ≡ StillNames r
  unfolding still_names
  still_names_one q r e =
      ap {B = ℕ → Bool}
      (λ (c j : ℕ). is_used_node (T j) && not (crossing E T x y j) && (eqb (bare E (low_of (T j))) c || eqb (bare E (high_of (T j))) c))
      e

  abbrev Dies : ℕ → Bool
  Dies = dies E T N x y roots

  says_rooted : (r : ℕ) → Says (any (λ k. one_record E (get_or roots k 0) r) (length roots)) (Rooted E roots r)
  says_rooted r =
      says_any _ (length roots) (λ k. bare E (get_or roots k 0) ≡ bare E r) (λ k. says_eqb (bare E (get_or roots k 0)) (bare E r))

  -- 4.5: what dies is a y record that no root names, and no record that does not cross
  pub says_dies : (r : ℕ) → Says (Dies r) ((UsedOf y (L r) × (Rooted E roots r → ⊥)) × (StillNamed L x y r → ⊥))
  unfolding dies
  says_dies r =
      let u : Says (is_of y (L r)) (UsedOf y (L r)) = record { yes = of_true y (L r); no = λ u. of_node y u.is } in
      says_and _ _ _ _ (says_and _ _ _ _ u (says_not _ _ (says_rooted r))) (says_not _ _ (says_still_named r))

  pub dies_y : (r : ℕ) → Dies r ≡ true → UsedOf y (L r)
  dies_y r t = ((says_dies r).yes t).0.0

  pub dies_unrooted : (r : ℕ) → Dies r ≡ true → Rooted E roots r → ⊥
  dies_unrooted r t = ((says_dies r).yes t).0.1

  pub dies_unnamed : (r : ℕ) → Dies r ≡ true → StillNamed L x y r → ⊥
  dies_unnamed r t = ((says_dies r).yes t).1

  -- what does not die: a y record that a root or a record that stays names, and all that is no y record
  pub y_lives : (r : ℕ) → Dies r ≡ false → UsedOf y (L r) → Rooted E roots r ⊎ StillNamed L x y r
  y_lives r f u = ⊎_elim inl (λ p. ⊎_elim inr (λ q. absurd (refutes (says_dies r) f ((u, p), q))) (decided (says_still_named r))) (decided (says_rooted r))

  pub other_lives : (r : ℕ) {v l h : ℕ} → L r ≡ node v l h → v ≢ y → Dies r ≡ false
  other_lives r e d = denies (says_dies r) (λ p. clash (of_node y p.0.0.is) (of_other y e d))

  pub free_lives : (r : ℕ) → L r ≡ free → Dies r ≡ false
  free_lives r e = denies (says_dies r) (λ p. free_node e p.0.0.is)

  -- a record dies by either of its references
  pub dies_opposite : (b : ℕ) → E.inverted b ≡ true → (r : ℕ) → Dies (E.opposite r) ≡ Dies r
  unfolding dies
  dies_opposite b g r =
      let e : bare E (E.opposite r) ≡ bare E r = bare_opposite E b g r in
      rw (seen_opposite E b g T r, of_turned E true y (seen E T r), e, still_names_one (E.opposite r) r e)
