-- Laws of what specs/Computed.antt defines.
use Prim.Native.Nat.{ℕ, zero, suc, ◌≤◌, ◌<◌}
use Rattle.std.proofs.Common.{arith, inl, inr, ap₂, ◌∙◌, subst, ltb-true}
use Rattle.std.specs.Prelude.{Bool, true, List, ◌≢◌, ◌⊎◌, ◌≡◌, refl, length}
use Rattle.std.proofs.Math.Bool.{false}
use Rattle.std.proofs.Math.Logic.{⊎_elim}
use Rattle.std.proofs.Math.Path.{ap, sym}
use Rattle.std.proofs.Math.ListN.{get_or}
use Rattle.lists.specs.First.{first, any, first_holds, first_below}
use Rattle.lists.specs.Says.{Some, says_eqb, refutes, decided, either_side}
use Rattle.lists.specs.Mem.{Mem, at_mem, mem_at, apart_at}
use Rattle.lists.specs.Truth.{by, clash}
use Rattle.diagrams.specs.Node.{Node, free, node, ref, look}
use Rattle.diagrams.specs.Edition.{Edition, invert, bare, turned, seen, Rooted, turned_twice, seen_opposite, opposite_one, bare_upright, invert_twice}
use Rattle.diagrams.specs.Edition.{invert_bare, turned_back, seen_invert, seen_upright, as_inverted}
use Rattle.diagrams.specs.Levels.{free_node}
use Rattle.swap_rules.specs.Record.{low_of, high_of, same, UsedOf, says_same, pick_node, Behind}
use Rattle.swap_rules.specs.Swap.{normal, f00, f01, f10, f11, crosses, crossing, stands, is_new, wanted, news, slots, slot_index, slot_of, placed, X}
use Rattle.swap_rules.specs.Swap.{becomes, filled, dies, record_after}
use Rattle.swap_rules.specs.Step.{Side, Asked, Open, Kind, kept, crossed, fresh, gone, Serves, Step}
use Rattle.swap_rules.proofs.Step.{crosses_x}
use Rattle.swap_rules.proofs.Opposites.{grand_opposite, crosses_opposite, asked_opposite, normal_node, behind_seen}
use Rattle.swap_rules.specs.Fitting.{Fitting}
use Rattle.swap_rules.proofs.Fitting.{in_table_lem, own_seen, free_stays, y_stays, seen_high, grand_high}
use Rattle.swap_rules.proofs.Dying.{dies_y, dies_unrooted, dies_unnamed, y_lives, other_lives, free_lives, dies_opposite}
use Rattle.swap_rules.specs.Making.{AskedFor}
use Rattle.swap_rules.proofs.Making.{asked_wanted, says_stands, says_standing, says_new, new_alone, wanted_news, news_apart}
use Rattle.swap_rules.proofs.Making.{slots_enough, slot_in, slot_open, slot_index_lem, filled_index, index_filled, index_slot, filled_slot, filled_new}
use Rattle.swap_rules.proofs.Making.{X-same, X-other, X-opposite}
use Rattle.swap_rules.specs.Computed.{Case, crosses_now, filled_now, dies_now, stays_now}

pub case : (E : Edition) (T : ℕ → Node) (N x y : ℕ) (roots : List ℕ) (i : ℕ) → Case E T N x y roots i
case E T N x y roots i = go (by (crossing E T x y i)) (by (filled E T N x y roots i)) (by (dies E T N x y roots (ref i)))
  where
    go : (crossing E T x y i ≡ true) ⊎ (crossing E T x y i ≡ false) → (filled E T N x y roots i ≡ true) ⊎ (filled E T N x y roots i ≡ false)
        → (dies E T N x y roots (ref i) ≡ true) ⊎ (dies E T N x y roots (ref i) ≡ false) → Case E T N x y roots i
    go (inl t) _ _ = crosses_now t
    go (inr f) (inl t) _ = filled_now f t
    go (inr f) (inr g) (inl t) = dies_now f g t
    go (inr f) (inr g) (inr d) = stays_now f g d

module _ {E : Edition} {T : ℕ → Node} {N x y : ℕ} {roots : List ℕ} (R : Fitting E T N x y roots) where
  -- the parts of the swap of this table
  abbrev L : ℕ → Node
  L = seen E T

  abbrev After : ℕ → Node
  After = record_after E T N x y roots

  abbrev L' : ℕ → Node
  L' = seen E After

  abbrev Crossing : ℕ → Bool
  Crossing = crossing E T x y

  abbrev News : List Node
  News = news E T N x y

  abbrev Slots : List ℕ
  Slots = slots E T N x y roots

  abbrev Index : ℕ → ℕ
  Index = slot_index E T N x y roots

  abbrev Filled : ℕ → Bool
  Filled = filled E T N x y roots

  abbrev Dies : ℕ → Bool
  Dies = dies E T N x y roots

  abbrev Xt : ℕ → ℕ → ℕ
  Xt = X E T N x y Slots

  -- ---- a record afterwards, by its cases

  pub after_crossed : (i l h : ℕ) → L (ref i) ≡ node x l h → Crossing i ≡ true → After i ≡ node y (Side L y Xt false l h) (Side L y Xt true l h)
  unfolding record_after becomes f00 f01 f10 f11 low_of high_of
  after_crossed i l h e t = rw (t, e)

  after_filled : (i : ℕ) → Crossing i ≡ false → Filled i ≡ true → After i ≡ get_or News (Index i) free
  unfolding record_after
  after_filled i f t = rw (f, t)

  pub after_gone : (i : ℕ) → Crossing i ≡ false → Filled i ≡ false → Dies (ref i) ≡ true → After i ≡ free
  unfolding record_after
  after_gone i f g t = rw (f, g, t)

  pub after_kept : (i : ℕ) → Crossing i ≡ false → Filled i ≡ false → Dies (ref i) ≡ false → After i ≡ T i
  unfolding record_after
  after_kept i f g d = rw (f, g, d)

  -- ---- a filled slot has no record to lose

  open_stays : (r : ℕ) → Open L Dies r → crosses L x y r ≡ false
  open_stays r (inl e) = free_stays R r e
  open_stays r (inr t) = y_stays R r (dies_y R r t)

  pub filled_open : (i : ℕ) → Filled i ≡ true → Open L Dies (ref i)
  filled_open i t = slot_open R i (filled_slot R i t)

  -- a used record that does not die is not filled
  pub unfilled : (i : ℕ) {v l h : ℕ} → T i ≡ node v l h → Dies (ref i) ≡ false → Filled i ≡ false
  unfilled i {v} {l} {h} e d = go (by (Filled i))
    where
      lost : Open L Dies (ref i) → Filled i ≡ false
      lost (inl z) = free_node z (own_seen R T i (in_table_lem R i e) ∙ e)
      lost (inr t) = clash t d

      go : (Filled i ≡ true) ⊎ (Filled i ≡ false) → Filled i ≡ false
      go (inl t) = lost (filled_open i t)
      go (inr f) = f

  pub filled_used : (i : ℕ) → Crossing i ≡ false → Filled i ≡ true → UsedOf x (After i)
  filled_used i f t =
      let g : AskedFor E L x y (get_or News (Index i) free) = (filled_new R i t).0 in
      record { low = g.a; high = g.b; is = after_filled i f t ∙ g.is }

  -- ---- what becomes of a reference

  abbrev KindOf : ℕ → Type 0
  KindOf r = Kind E.Terminal L L' x y Xt Dies r

  -- by a record's own reference
  kind_record : (i : ℕ) → E.inverted (ref i) ≡ false → KindOf (ref i)
  unfolding look
  kind_record i n = go (case E T N x y roots i)
    where
      old : L (ref i) ≡ T i
      old = seen_upright E T (ref i) n

      now : L' (ref i) ≡ After i
      now = seen_upright E After (ref i) n

      go : Case E T N x y roots i → KindOf (ref i)
      go (crosses_now t) =
          let u : UsedOf x (L (ref i)) = crosses_x L x y (ref i) t in
          crossed u.low u.high u.is t (now ∙ after_crossed i u.low u.high u.is t)
      go (filled_now f t) =
          let g : AskedFor E L x y (get_or News (Index i) free) = (filled_new R i t).0 in
          let m : is_new E T N x y (node x g.a g.b) ≡ true = rw g.is at (filled_new R i t).1 in
          let differ : g.a ≢ g.b = ((says_new R _ _).yes m).0 in
          let record-number : E.Terminal (ref i) → ⊥ = λ h. omega (arith, E.terminal_small (ref i) n h) in
          fresh g.a g.b record-number (filled_open i t) (now ∙ after_filled i f t ∙ g.is) g.for differ (new_alone R _ _ g.up m)
      go (dies_now f g t) = gone t (now ∙ after_gone i f g t)
      go (stays_now f g d) = kept (now ∙ after_kept i f g d ∙ sym old) f d

  -- a reference below 2 names no record, before and after
  kind_none : (q : ℕ) → L q ≡ free → L' q ≡ free → KindOf q
  kind_none q e e' = kept (e' ∙ sym e) (free_stays R q e) (free_lives R q e)

  kind_upright : (q : ℕ) → E.inverted q ≡ false → KindOf q
  unfolding look
  kind_upright zero n = kind_none 0 (seen_upright E T 0 n) (seen_upright E After 0 n)
  kind_upright (suc zero) n = kind_none 1 (seen_upright E T 1 n) (seen_upright E After 1 n)
  kind_upright (suc (suc i)) n = kind_record i n

  -- ---- X

  -- w has a record afterwards, where X looks for it
  abbrev IsPlaced : Node → Type 0
  IsPlaced w = (placed E T N x y Slots w < N) × (After (placed E T N x y Slots w) ≡ w)

  placed_standing : (a b : ℕ) → any (stands E T x y (node x a b)) N ≡ true → IsPlaced (node x a b)
  placed_standing a b t = rw e (l, after_kept j c (unfilled j (sym z.0) d) d ∙ sym z.0)
    where
      j : ℕ
      j = first (stands E T x y (node x a b)) N

      z : (node x a b ≡ T j) × (crosses L x y (ref j) ≡ true → ⊥)
      z = (says_stands R (node x a b) j).yes (first_holds (stands E T x y (node x a b)) N (ltb-true _ _ t))

      l : j < N
      l = in_table_lem R j (sym z.0)

      d : Dies (ref j) ≡ false
      d = other_lives R (ref j) (own_seen R T j l ∙ sym z.0) R.differ

      c : Crossing j ≡ false
      c = ⊎_elim (λ p. absurd (z.1 p)) (λ p. p) (by (Crossing j))

      e : placed E T N x y Slots (node x a b) ≡ j
      e = rw t

  placed_new : (a b : ℕ) → a ≢ b → any (stands E T x y (node x a b)) N ≡ false → Mem (node x a b) (wanted E T N x y) → IsPlaced (node x a b)
  unfolding slot_of
  placed_new a b n t s = rw t (slot_in R i m, goes_there ∙ ap (λ (k : ℕ). get_or News k free) index_is ∙ sym is_w)
    where
      w : Node
      w = node x a b

      p : ℕ
      p = first (λ j. same w (get_or News j free)) (length News)

      i : ℕ
      i = get_or Slots p 0

      there : Some (λ j. get_or News j free ≡ w) (length News)
      there = mem_at w News free (wanted_news R w s ((says_new R a b).no (n, refutes (says_standing R w) t)))

      h : p < length News
      h = first_below _ (length News) there.index there.below ((says_same w _).no (sym there.holds))

      is_w : w ≡ get_or News p free
      is_w = (says_same w _).yes (first_holds (λ j. same w (get_or News j free)) (length News) h)

      h' : p < length Slots
      h' = omega (arith, h, slots_enough R)

      m : Mem i Slots
      m = at_mem Slots p 0 h'

      index_is : Index i ≡ p
      index_is = slot_index_lem R p h'

      goes_there : After i ≡ get_or News (Index i) free
      goes_there = after_filled i (open_stays (ref i) (slot_open R i m)) (index_filled R i (rw index_is h))

  wanted_placed : (a b : ℕ) → a ≢ b → Mem (node x a b) (wanted E T N x y) → IsPlaced (node x a b)
  wanted_placed a b n s = ⊎_elim (placed_standing a b) (λ t. placed_new a b n t s) (by (any (stands E T x y (node x a b)) N))

  asked_placed : (a b : ℕ) → a ≢ b → Asked L x y a b → IsPlaced (normal E (node x a b))
  asked_placed a b d s =
      let u : Bool = E.inverted b in
      let z : normal E (node x a b) ≡ node x (invert E u a) (invert E u b) = normal_node E x a b in
      let d' : invert E u a ≢ invert E u b = λ e. d (sym (invert_twice E b a) ∙ ap (invert E u) e ∙ invert_twice E b b) in
      let m : Mem (node x (invert E u a) (invert E u b)) (wanted E T N x y) = subst (λ (w : Node). Mem w (wanted E T N x y)) z (asked_wanted R a b s) in
      subst IsPlaced (sym z) (wanted_placed (invert E u a) (invert E u b) d' m)

  X-names : (a b : ℕ) → a ≢ b → Asked L x y a b → L' (Xt a b) ≡ node x a b
  unfolding high_of
  X-names a b d s =
      let i : ℕ = placed E T N x y Slots (normal E (node x a b)) in
      let z : IsPlaced (normal E (node x a b)) = asked_placed a b d s in
      ap L' (X-other R a b d)
      ∙ seen_invert E After b (ref i)
      ∙ ap (turned E (E.inverted b)) (own_seen R After i z.0 ∙ z.1)
      ∙ turned_back E b (node x a b)

  X-serves : (a b : ℕ) → Asked L x y a b → Serves L' x Xt a b
  X-serves a b s = ⊎_elim (λ e. inl (e, X-same R a b e)) (λ n. inr (n, X-names a b n s)) (decided (says_eqb a b))

  -- ---- the opposite reference

  module _ (b : ℕ) (g : E.inverted b ≡ true) where
    open_opposite : (r : ℕ) → Open L Dies r → Open L Dies (E.opposite r)
    open_opposite r (inl e) = inl (seen_opposite E b g T r ∙ ap (turned E true) e)
    open_opposite r (inr t) = inr (dies_opposite R b g r ∙ t)

    side_opposite : (d : Bool) (l h : ℕ) → E.opposite (Side L y Xt d l h) ≡ Side L y Xt d (E.opposite l) (E.opposite h)
    side_opposite d l h = sym (X-opposite R b g _ _) ∙ ap₂ Xt (sym (grand_opposite E b g T y d l)) (sym (grand_opposite E b g T y d h))

    terminal_opposite : (r : ℕ) → E.Terminal (E.opposite r) → E.Terminal r
    terminal_opposite r h = subst E.Terminal (E.twice b r g) (E.terminal_opposite b (E.opposite r) g h)

    kind_opposite : (r : ℕ) → KindOf r → KindOf (E.opposite r)
    kind_opposite r k = go k
      where
        old : L (E.opposite r) ≡ turned E true (L r)
        old = seen_opposite E b g T r

        now : {m : Node} → L' r ≡ m → L' (E.opposite r) ≡ turned E true m
        now e = seen_opposite E b g After r ∙ ap (turned E true) e

        cross : crosses L x y (E.opposite r) ≡ crosses L x y r
        cross = crosses_opposite E b g T x y r

        alone : (p q : ℕ) → ((s : ℕ) → L s ≡ node x p q → crosses L x y s ≡ false → ⊥)
            → (s : ℕ) → L s ≡ node x (E.opposite p) (E.opposite q) → crosses L x y s ≡ false → ⊥
        alone p q i s e f =
            i (E.opposite s)
            (seen_opposite E b g T s ∙ ap (turned E true) e ∙ turned_twice E b g (node x p q))
            (crosses_opposite E b g T x y s ∙ f)

        go : KindOf r → KindOf (E.opposite r)
        go (kept e f d) = kept (now e ∙ sym old) (cross ∙ f) (dies_opposite R b g r ∙ d)
        go (crossed l h e t e') =
            crossed (E.opposite l) (E.opposite h) (old ∙ ap (turned E true) e) (cross ∙ t)
            (now e' ∙ ap₂ (λ (p q : ℕ). node y p q) (side_opposite false l h) (side_opposite true l h))
        go (fresh p q c o e s d i) =
            fresh (E.opposite p) (E.opposite q) (λ h. c (terminal_opposite r h)) (open_opposite r o) (now e) (asked_opposite E b g T s)
            (λ z. d (opposite_one E b g p q z))
            (alone p q i)
        go (gone t e) = gone (dies_opposite R b g r ∙ t) (now e)

  kind : (r : ℕ) → KindOf r
  kind r = go (E.inverted r) refl (bare_upright E r) (invert_bare E r)
    where
      go : (s : Bool) → E.inverted r ≡ s → E.inverted (invert E s r) ≡ false → invert E s (invert E s r) ≡ r → KindOf r
      go true e n z = subst (λ (q : ℕ). KindOf q) z (kind_opposite r e (E.opposite r) (kind_upright (E.opposite r) n))
      go false e n z = kind_upright r n

  -- ---- a new record is made once

  open_filled : (i a b : ℕ) → i < N → After i ≡ node x a b → Open L Dies (ref i) → Filled i ≡ true
  open_filled i a b l e o = go (by (Filled i)) o (by (Dies (ref i)))
    where
      go : (Filled i ≡ true) ⊎ (Filled i ≡ false) → Open L Dies (ref i) → (Dies (ref i) ≡ true) ⊎ (Dies (ref i) ≡ false) → Filled i ≡ true
      go (inl t) _ _ = t
      go (inr g) _ (inl t) = free_node (after_gone i (open_stays (ref i) o) g t) e
      go (inr g) (inl z) (inr d) = free_node z (own_seen R T i l ∙ sym (after_kept i (open_stays (ref i) o) g d) ∙ e)
      go (inr g) (inr t) (inr d) = clash t d

  same_slot : (i j a b : ℕ) → i < N → j < N → After i ≡ node x a b → After j ≡ node x a b → Open L Dies (ref i) → Open L Dies (ref j) → i ≡ j
  same_slot i j a b l m e e' o o' =
      let p : Filled i ≡ true = open_filled i a b l e o in
      let q : Filled j ≡ true = open_filled j a b m e' o' in
      let w : get_or News (Index i) free ≡ get_or News (Index j) free =
      sym (after_filled i (open_stays (ref i) o) p) ∙ e ∙ sym e' ∙ after_filled j (open_stays (ref j) o') q in
      let z : Index i ≡ Index j = apart_at News (Index i) (Index j) free (news_apart R) (filled_index R i p) (filled_index R j q) w in
      sym (index_slot R i p) ∙ ap (λ (k : ℕ). get_or Slots k 0) z ∙ index_slot R j q

  -- past the table
  pub after_past : (i : ℕ) → N ≤ i → E.inverted (ref i) ≡ false → After i ≡ free
  unfolding look
  after_past i l n =
      let e : T i ≡ free = R.past i l in
      let o : L (ref i) ≡ free = seen_upright E T (ref i) n ∙ e in
      let g : Filled i ≡ false = ⊎_elim (λ b. absurd (omega (arith, slot_in R i (filled_slot R i b)))) (λ b. b) (by (Filled i)) in
      after_kept i (free_stays R (ref i) o) g (free_lives R (ref i) o) ∙ e

  after_in_table : (i : ℕ) {v l h : ℕ} → E.inverted (ref i) ≡ false → After i ≡ node v l h → i < N
  after_in_table i n e = either_side i N (λ l. l) (λ l. free_node (after_past i l n) e)

  open_bare : (r : ℕ) → Open L Dies r → Open L Dies (bare E r)
  open_bare r o = go (E.inverted r) refl
    where
      go : (s : Bool) → E.inverted r ≡ s → Open L Dies (invert E s r)
      go true e = open_opposite r e r o
      go false e = o

  -- where a new record stands, and by which reference
  record MadeAt (r a b : ℕ) : Type 0 where
    number : ℕ
    is : bare E r ≡ ref number
    below : number < N
    opened : Open L Dies (ref number)
    holds : After number ≡ node x (invert E (E.inverted b) a) (invert E (E.inverted b) b)
    alike : E.inverted r ≡ E.inverted b

  made_at : (r a b : ℕ) → L' r ≡ node x a b → Open L Dies r → MadeAt r a b
  made_at r a b e o = record {
    number = i;
    is = m.is;
    below = l;
    opened = p;
    holds = m.holds ∙ ap (λ (s : Bool). node x (invert E s a) (invert E s b)) k;
    alike = k;
  }
    where
      m : Behind After (bare E r) (node x (invert E (E.inverted r) a) (invert E (E.inverted r) b))
      m = behind_seen E After r e

      i : ℕ
      i = m.number

      l : i < N
      l = after_in_table i (ap E.inverted (sym m.is) ∙ bare_upright E r) m.holds

      p : Open L Dies (ref i)
      p = subst (Open L Dies) m.is (open_bare r o)

      k : E.inverted r ≡ E.inverted b
      k =
          let t : Filled i ≡ true = open_filled i _ _ l m.holds p in
          let w : AskedFor E L x y (get_or News (Index i) free) = (filled_new R i t).0 in
          let z : node x w.a w.b ≡ node x (invert E (E.inverted r) a) (invert E (E.inverted r) b) =
          sym w.is ∙ sym (after_filled i (open_stays (ref i) p) t) ∙ m.holds in
          as_inverted E r b (ap E.inverted (sym (pick_node z true)) ∙ w.up)

  fresh_single : (r s a b : ℕ) → L' r ≡ node x a b → L' s ≡ node x a b → Open L Dies r → Open L Dies s → r ≡ s
  fresh_single r s a b e e' o o' =
      let f : MadeAt r a b = made_at r a b e o in
      let g : MadeAt s a b = made_at s a b e' o' in
      let k : f.number ≡ g.number = same_slot f.number g.number _ _ f.below g.below f.holds g.holds f.opened g.opened in
      sym (invert_bare E r) ∙ ap₂ (invert E) (f.alike ∙ sym g.alike) (f.is ∙ ap ref k ∙ sym g.is) ∙ invert_bare E s

  -- ---- no high reference is inverted afterwards

  X-upright : (a b : ℕ) → Asked L x y a b → E.inverted b ≡ false → E.inverted (Xt a b) ≡ false
  X-upright a b s n = ⊎_elim (λ e. ap E.inverted (X-same R a b e ∙ e) ∙ n) made (decided (says_eqb a b))
    where
      made : a ≢ b → E.inverted (Xt a b) ≡ false
      made d =
          let p : ℕ = placed E T N x y Slots (normal E (node x a b)) in
          let z : Xt a b ≡ ref p = X-other R a b d ∙ ap (λ (u : Bool). invert E u (ref p)) n in
          ap E.inverted z ∙ R.own p (asked_placed a b d s).0

  pub after_upright : (i v l h : ℕ) → i < N → After i ≡ node v l h → E.inverted h ≡ false
  after_upright i v l h b e = go (case E T N x y roots i)
    where
      go : Case E T N x y roots i → E.inverted h ≡ false
      go (crosses_now t) =
          let u : UsedOf x (L (ref i)) = crosses_x L x y (ref i) t in
          let z : h ≡ Side L y Xt true u.low u.high = pick_node (sym e ∙ after_crossed i u.low u.high u.is t) true in
          ap E.inverted z
          ∙ X-upright _ _ (record { asker = ref i; low = u.low; high = u.high; is = u.is; cross = t; side = true; low_is = refl; high_is = refl })
          (grand_high R u.high (seen_high R (ref i) x u.low u.high (R.own i b) u.is))
      go (filled_now f t) =
          let w : AskedFor E L x y (get_or News (Index i) free) = (filled_new R i t).0 in
          ap E.inverted (pick_node (sym e ∙ after_filled i f t ∙ w.is) true) ∙ w.up
      go (dies_now f g t) = free_node (after_gone i f g t) e
      go (stays_now f g d) = R.upright i v l h (sym (after_kept i f g d) ∙ e)

  pub computed_step : Step E.Terminal L L' (Rooted E roots) x y Xt Dies
  computed_step = record {
    kind = kind;
    serves = X-serves;
    fresh_single = fresh_single;
    dies_y = dies_y R;
    dies_root = dies_unrooted R;
    dies_named = λ r m t f. dies_unnamed R r t (m, f);
    lives = y_lives R;
  }
