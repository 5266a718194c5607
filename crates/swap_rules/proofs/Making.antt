-- Laws of what specs/Making.antt defines.
use Rattle.std.specs.Prelude.{ℕ, ◌≤◌, ◌<◌, Bool, List, [], ◌∷◌, ◌≢◌, ◌⊎◌, ◌≡◌, length, get_or}
use Rattle.std.proofs.Common.{arith, ap, ap₂, sym, ◌∙◌, subst}
use Rattle.std.proofs.Math.Bool.{true, false}
use mathlib.Core.List.Memᴰ
use Rattle.std.proofs.Math.Logic.{inl, inr, ⊎_elim}
use Rattle.std.proofs.Math.Path.{refl}
use Rattle.std.proofs.Math.Dec.{eqb}
use borrow.Author.Tests.{eqb-true, eq-eqb, ne_eqb, ltb-true, lt-ltb}
use Rattle.lists.specs.First.{any, first_holds}
use Rattle.lists.specs.Says.{Says, says_itself, says_any, says_eqb, says_not, says_and, decided}
use Rattle.lists.specs.Mem.{Mem, Apart, at_mem}
use Rattle.lists.specs.Keep.{keep, keep_mem, mem_keep}
use Rattle.lists.specs.Which.{which, which_mem, mem_which, both_mem, both_apart}
use Rattle.lists.specs.Each.{each_mem, mem_each}
use Rattle.lists.specs.Once.{once_mem, mem_once, once_apart}
use Rattle.lists.specs.Places.{place_at_lem}
use Rattle.lists.specs.Truth.{clash}
use Rattle.diagrams.specs.Node.{Node, free, node, ref}
use Rattle.diagrams.specs.Edition.{Edition, invert, bare, turned, seen, opposite_one, invert_not}
use Rattle.swap_rules.specs.Record.{low_of, high_of, is_free_node, same, UsedOf, free_true, says_same, Behind}
use Rattle.swap_rules.specs.Swap.{normal, grandchild, f00, f01, f10, f11, crosses, asked, both_asked, crossing, stands, is_new, wanted, news, slots}
use Rattle.swap_rules.specs.Swap.{placed, X, needed, dies, slot_index, filled}
use Rattle.swap_rules.specs.Step.{Asked, Open}
use Rattle.swap_rules.proofs.Step.{crosses_x}
use Rattle.swap_rules.proofs.Opposites.{grand_opposite, asked_opposite, normal_opposite, behind_seen}
use Rattle.swap_rules.specs.Fitting.{Fitting}
use Rattle.swap_rules.proofs.Fitting.{in_table_lem, own_seen, behind_crosses}
use Rattle.swap_rules.proofs.Dying.{free_lives}
use Rattle.swap_rules.specs.Making.{AskedFor, Standing}

module _ {E : Edition} {T : ℕ → Node} {N x y : ℕ} {roots : List ℕ} (R : Fitting E T N x y roots) where
  abbrev L : ℕ → Node
  L = seen E T

  abbrev Wanted : List Node
  Wanted = wanted E T N x y

  abbrev IsNew : Node → Bool
  IsNew = is_new E T N x y

  abbrev News : List Node
  News = news E T N x y

  abbrev Slots : List ℕ
  Slots = slots E T N x y roots

  abbrev Index : ℕ → ℕ
  Index = slot_index E T N x y roots

  abbrev Filled : ℕ → Bool
  Filled = filled E T N x y roots

  -- what x (l, h) asks for on one side, as it is looked for or made
  abbrev sought : Bool → ℕ → ℕ → Node
  sought d l h = normal E (node x (grandchild L y d l) (grandchild L y d h))

  asked_is : (r l h : ℕ) (d : Bool) → L r ≡ node x l h → asked L x y d r ≡ node x (grandchild L y d l) (grandchild L y d h)
  unfolding asked f00 f01 f10 f11 low_of high_of
  asked_is r l h false e = rw e
  asked_is r l h true e = rw e

  normal_asked : (a b : ℕ) (w : Node) → Asked L x y a b → w ≡ normal E (node x a b) → AskedFor E L x y w
  unfolding high_of
  normal_asked a b w s e = go (E.inverted b) refl e
    where
      go : (u : Bool) → E.inverted b ≡ u → w ≡ turned E u (node x a b) → AskedFor E L x y w
      go true t e = record { a = E.opposite a; b = E.opposite b; is = e; up = E.other b b t ∙ rw t; for = asked_opposite E b t T s }
      go false t e = record { a = a; b = b; is = e; up = t; for = s }

  wanted_asked : (w : Node) → Mem w Wanted → AskedFor E L x y w
  unfolding wanted
  wanted_asked w m = go (Memᴰ.cases_cons z.2)
    where
      z : (i : ℕ) × Mem i (which (crossing E T x y) N) × Mem w (both_asked E T x y i)
      z = each_mem _ w _ m

      i : ℕ
      i = z.0

      t : crosses L x y (ref i) ≡ true
      t = (which_mem (crossing E T x y) N i z.1).1

      u : UsedOf x (L (ref i))
      u = crosses_x L x y (ref i) t

      by_side : (d : Bool) → w ≡ normal E (asked L x y d (ref i)) → AskedFor E L x y w
      by_side d e =
          normal_asked (grandchild L y d u.low) (grandchild L y d u.high) w
          (record { asker = ref i; low = u.low; high = u.high; is = u.is; cross = t; side = d; low_is = refl; high_is = refl })
          (e ∙ ap (normal E) (asked_is (ref i) u.low u.high d u.is))

      go : (w ≡ normal E (asked L x y false (ref i))) ⊎ Mem w (normal E (asked L x y true (ref i)) ∷ []) → AskedFor E L x y w
      go (inl e) = by_side false e
      go (inr m) = ⊎_elim (by_side true) (λ k. absurd (Memᴰ.not-nil k)) (Memᴰ.cases_cons m)

  -- asked for by a record's own reference
  own_wanted : (i l h : ℕ) (d : Bool) → i < N → L (ref i) ≡ node x l h → crossing E T x y i ≡ true → Mem (sought d l h) Wanted
  unfolding wanted
  own_wanted i l h d b e t = mem_each _ _ i _ (mem_which (crossing E T x y) N i b t) (go d)
    where
      go : (d : Bool) → Mem (sought d l h) (both_asked E T x y i)
      go true = Memᴰ.tail (Memᴰ.head (ap (normal E) (sym (asked_is (ref i) l h true e))))
      go false = Memᴰ.head (ap (normal E) (sym (asked_is (ref i) l h false e)))

  -- asked for by any reference
  pub asked_wanted : (a b : ℕ) → Asked L x y a b → Mem (normal E (node x a b)) Wanted
  asked_wanted a b s = go (E.inverted s.asker) refl m.holds
    where
      m : Behind T (bare E s.asker) (node x (invert E (E.inverted s.asker) s.low) (invert E (E.inverted s.asker) s.high))
      m = behind_seen E T s.asker s.is

      i : ℕ
      i = m.number

      lt : i < N
      lt = in_table_lem R i m.holds

      t : crossing E T x y i ≡ true
      t = behind_crosses R s.asker i m.is ∙ s.cross

      there : (l h : ℕ) → T i ≡ node x l h → normal E (node x a b) ≡ sought s.side l h → Mem (normal E (node x a b)) Wanted
      there l h e z = subst (λ (w : Node). Mem w Wanted) (sym z) (own_wanted i l h s.side lt (own_seen R T i lt ∙ e) t)

      opposite_is : E.inverted s.asker ≡ true → (c p : ℕ) → p ≡ grandchild L y s.side c → E.opposite p ≡ grandchild L y s.side (E.opposite c)
      opposite_is g c p e = ap E.opposite e ∙ sym (grand_opposite E s.asker g T y s.side c)

      go : (u : Bool) → E.inverted s.asker ≡ u → T i ≡ node x (invert E u s.low) (invert E u s.high) → Mem (normal E (node x a b)) Wanted
      go true g e =
          there (E.opposite s.low) (E.opposite s.high) e (
          sym (normal_opposite E s.asker g x a b)
          ∙ ap₂ (λ (p q : ℕ). normal E (node x p q)) (opposite_is g s.low a s.low_is) (opposite_is g s.high b s.high_is)
          )
      go false g e = there s.low s.high e (ap₂ (λ (p q : ℕ). normal E (node x p q)) s.low_is s.high_is)

  -- ---- what stands already, and what is new

  pub says_stands : (w : Node) (j : ℕ) → Says (stands E T x y w j) ((w ≡ T j) × (crosses L x y (ref j) ≡ true → ⊥))
  unfolding stands
  says_stands w j = says_and _ _ _ _ (says_same w (T j)) (says_not _ (crosses L x y (ref j) ≡ true) (says_itself _))

  pub says_standing : (w : Node) → Says (any (stands E T x y w) N) (Standing T L N x y w)
  says_standing w = says_any _ N (λ j. (w ≡ T j) × (crosses L x y (ref j) ≡ true → ⊥)) (says_stands w)

  pub says_new : (a b : ℕ) → Says (IsNew (node x a b)) ((a ≢ b) × (Standing T L N x y (node x a b) → ⊥))
  unfolding is_new low_of high_of
  says_new a b = says_and _ _ _ _ (says_not _ _ (says_eqb a b)) (says_not _ _ (says_standing (node x a b)))

  -- no record that stays is a new one, by whatever reference it is seen
  pub new_alone : (a b : ℕ) → E.inverted b ≡ false → IsNew (node x a b) ≡ true → (q : ℕ) → L q ≡ node x a b → crosses L x y q ≡ false → ⊥
  new_alone a b n t q e f = go (E.inverted q) refl m.holds
    where
      m : Behind T (bare E q) (node x (invert E (E.inverted q) a) (invert E (E.inverted q) b))
      m = behind_seen E T q e

      i : ℕ
      i = m.number

      go : (u : Bool) → E.inverted q ≡ u → T i ≡ node x (invert E u a) (invert E u b) → ⊥
      go true g z = clash (E.other q b g ∙ rw n) (R.upright i x (E.opposite a) (E.opposite b) z)
      go false g z =
          ((says_new a b).yes t).1 (record { index = i; below = in_table_lem R i z; holds = (sym z, λ c. clash c (behind_crosses R q i m.is ∙ f)) })

  news_wanted : (w : Node) → Mem w News → Mem w Wanted × (IsNew w ≡ true)
  unfolding news
  news_wanted w m = keep_mem IsNew w Wanted (once_mem same says_same w _ m)

  pub wanted_news : (w : Node) → Mem w Wanted → IsNew w ≡ true → Mem w News
  unfolding news
  wanted_news w m t = mem_once same says_same w _ (mem_keep IsNew w Wanted m t)

  pub news_apart : Apart News
  unfolding news
  news_apart = once_apart same says_same (keep IsNew Wanted)

  -- ---- slots: all that the rest asks of them

  abbrev Free : ℕ → Bool
  Free i = is_free_node (T i)

  abbrev Dies : ℕ → Bool
  Dies = dies E T N x y roots

  free_seen : (i : ℕ) → i < N → Free i ≡ true → L (ref i) ≡ free
  free_seen i b t = own_seen R T i b ∙ free_true (T i) t

  -- no record is free and dies
  free_or_dies : (i : ℕ) → i < N → Free i ≡ true → Dies (ref i) ≡ true → ⊥
  free_or_dies i b t d = clash d (free_lives R (ref i) (free_seen i b t))

  pub slots_apart : Apart Slots
  unfolding slots
  slots_apart = both_apart Free (λ i. Dies (ref i)) N free_or_dies

  pub slot_in : (i : ℕ) → Mem i Slots → i < N
  unfolding slots
  slot_in i m = (both_mem Free (λ i. Dies (ref i)) N i m).0

  -- a slot is free before the swap, or dies in it
  pub slot_open : (i : ℕ) → Mem i Slots → Open L Dies (ref i)
  unfolding slots
  slot_open i m = let z = both_mem Free (λ i. Dies (ref i)) N i m in ⊎_elim (λ t. inl (free_seen i z.0 t)) inr z.1

  -- ---- the filled slots

  pub filled_index : (i : ℕ) → Filled i ≡ true → Index i < length News
  unfolding filled needed
  filled_index i t = ltb-true _ _ t

  pub index_filled : (i : ℕ) → Index i < length News → Filled i ≡ true
  unfolding filled needed
  index_filled i h = lt-ltb _ _ h

  pub slots_enough : length News ≤ length Slots
  unfolding needed
  slots_enough = R.fit

  pub index_slot : (i : ℕ) → Filled i ≡ true → get_or Slots (Index i) 0 ≡ i
  unfolding slot_index
  index_slot i t = eqb-true _ _ (first_holds (λ j. eqb (get_or Slots j 0) i) (length Slots) (omega (arith, filled_index i t, slots_enough)))

  pub slot_index_lem : (p : ℕ) → p < length Slots → Index (get_or Slots p 0) ≡ p
  unfolding slot_index
  slot_index_lem p h = place_at_lem Slots slots_apart p h

  pub filled_slot : (i : ℕ) → Filled i ≡ true → Mem i Slots
  filled_slot i t = Memᴰ.cast (sym (index_slot i t)) (at_mem Slots (Index i) 0 (omega (arith, filled_index i t, slots_enough)))

  -- the new record that goes to a filled slot
  pub filled_new : (i : ℕ) → Filled i ≡ true → AskedFor E L x y (get_or News (Index i) free) × (IsNew (get_or News (Index i) free) ≡ true)
  filled_new i t = let z = news_wanted _ (at_mem News (Index i) free (filled_index i t)) in (wanted_asked _ z.0, z.1)

  -- ---- X

  abbrev Xt : ℕ → ℕ → ℕ
  Xt = X E T N x y Slots

  pub X-same : (a b : ℕ) → a ≡ b → Xt a b ≡ a
  unfolding X
  X-same a b e = rw (eq-eqb a b e)

  pub X-other : (a b : ℕ) → a ≢ b → Xt a b ≡ invert E (E.inverted b) (ref (placed E T N x y Slots (normal E (node x a b))))
  unfolding X
  X-other a b d = rw (ne_eqb a b d)

  pub X-opposite : (b : ℕ) → E.inverted b ≡ true → (p q : ℕ) → Xt (E.opposite p) (E.opposite q) ≡ E.opposite (Xt p q)
  X-opposite b g p q = ⊎_elim alike differ (decided (says_eqb p q))
    where
      alike : p ≡ q → Xt (E.opposite p) (E.opposite q) ≡ E.opposite (Xt p q)
      alike e = X-same _ _ (ap E.opposite e) ∙ ap E.opposite (sym (X-same p q e))

      differ : p ≢ q → Xt (E.opposite p) (E.opposite q) ≡ E.opposite (Xt p q)
      differ d =
          X-other _ _ (λ e. d (opposite_one E b g p q e))
          ∙ ap₂ (λ (s : Bool) (w : Node). invert E s (ref (placed E T N x y Slots w))) (E.other b q g) (normal_opposite E b g x p q)
          ∙ invert_not E b g (E.inverted q) _
          ∙ ap E.opposite (sym (X-other p q d))
