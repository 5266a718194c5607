-- A state that differs from another at the places of some stores only, and what stores make of it.
use Rattle.std.specs.Prelude.{ℕ, ◌<◌, List, [], ◌∷◌, map, ◌⊎◌, ◌≡◌, refl, length, get_or}
use mathlib.Core.List.Memᴰ
use Rattle.std.proofs.Common.{inl, inr, ⊎_elim, ap, sym, ◌∙◌, arith, length-set, get_or-set_same, get_or-set_other, ext_get_or}
use Rattle.lists.specs.Mem.{Mem}
use Rattle.lists.specs.Says.{decided, says_eqb}
use Rattle.undo.specs.Stores.{Buffer, in_table, in_order, in_log, State, Store, store, buffer_of, put, puts}

-- where a store goes
pub data Place : Type 0 where
  place : Buffer → ℕ → Place

abbrev pub place_of : Store → Place
place_of (store b i v) = place b i

abbrev pub places : List Store → List Place
places l = map place_of l

-- the byte at a place
abbrev pub byte_at : State → Place → ℕ
byte_at s (place b i) = get_or (buffer_of b s) i 0

-- s is as a, but perhaps at the places of some stores
pub record Off (l : List Store) (a s : State) : Type 0 where
  pub long : (b : Buffer) → length (buffer_of b s) ≡ length (buffer_of b a)
  pub same : (p : Place) → (byte_at s p ≡ byte_at a p) ⊎ Mem p (places l)

-- a store of the very byte that a has there
pub data Right (a : State) : Store → Type 0 where
  right : {b : Buffer} {i v : ℕ} → i < length (buffer_of b a) → v ≡ get_or (buffer_of b a) i 0 → Right a (store b i v)

-- ---- one store

put_long : (s : State) (x : Store) (b : Buffer) → length (buffer_of b (put s x)) ≡ length (buffer_of b s)
unfolding put
put_long s (store in_table i v) in_table = simp length-set
put_long s (store in_table i v) in_order = refl
put_long s (store in_table i v) in_log = refl
put_long s (store in_order i v) in_table = refl
put_long s (store in_order i v) in_order = simp length-set
put_long s (store in_order i v) in_log = refl
put_long s (store in_log i v) in_table = refl
put_long s (store in_log i v) in_order = refl
put_long s (store in_log i v) in_log = simp length-set

-- the byte at the place is the one stored, any other stays
data Set (s : State) (b : Buffer) (i v : ℕ) (p : Place) : Type 0 where
  here : p ≡ place b i → (i < length (buffer_of b s) → byte_at (put s (store b i v)) p ≡ v) → Set s b i v p
  elsewhere : (p ≡ place b i → ⊥) → byte_at (put s (store b i v)) p ≡ byte_at s p → Set s b i v p

indices : (a b : Buffer) (i j : ℕ) → place a i ≡ place b j → i ≡ j
indices a b i j e = cc

other : {X : Type 0} → ◌≡◌ {A = ℕ} 0 1 → X
other e = absurd (omega arith)

put_at_lem : (s : State) (b : Buffer) (i v : ℕ) (p : Place) → Set s b i v p
unfolding put
put_at_lem s b i v (place b' j) = go b b' (decided (says_eqb j i))
  where
    go : (b b' : Buffer) → (j ≡ i) ⊎ (j ≡ i → ⊥) → Set s b i v (place b' j)
    go in_table in_table (inl e) = here (ap (place in_table) e) (λ h. rw e (get_or-set_same s.table i v 0 h))
    go in_table in_table (inr d) = elsewhere (λ e. d (indices _ _ _ _ e)) (get_or-set_other s.table i j v 0 d)
    go in_table in_order d = elsewhere (λ e. let z : ◌≡◌ {A = ℕ} 0 1 = cc in other z) refl
    go in_table in_log d = elsewhere (λ e. let z : ◌≡◌ {A = ℕ} 0 1 = cc in other z) refl
    go in_order in_table d = elsewhere (λ e. let z : ◌≡◌ {A = ℕ} 0 1 = cc in other z) refl
    go in_order in_order (inl e) = here (ap (place in_order) e) (λ h. rw e (get_or-set_same s.order i v 0 h))
    go in_order in_order (inr d) = elsewhere (λ e. d (indices _ _ _ _ e)) (get_or-set_other s.order i j v 0 d)
    go in_order in_log d = elsewhere (λ e. let z : ◌≡◌ {A = ℕ} 0 1 = cc in other z) refl
    go in_log in_table d = elsewhere (λ e. let z : ◌≡◌ {A = ℕ} 0 1 = cc in other z) refl
    go in_log in_order d = elsewhere (λ e. let z : ◌≡◌ {A = ℕ} 0 1 = cc in other z) refl
    go in_log in_log (inl e) = here (ap (place in_log) e) (λ h. rw e (get_or-set_same s.log i v 0 h))
    go in_log in_log (inr d) = elsewhere (λ e. d (indices _ _ _ _ e)) (get_or-set_other s.log i j v 0 d)

-- ---- a row of stores

pub puts_long : (l : List Store) (s : State) (b : Buffer) → length (buffer_of b (puts l s)) ≡ length (buffer_of b s)
unfolding puts
puts_long [] s b = refl
puts_long (x ∷ l) s b = puts_long l (put s x) b ∙ put_long s x b

-- of places among these: nothing more differs
pub off_puts : (l m : List Store) (a s : State) → ((x : Store) → Mem x m → Mem (place_of x) (places l)) → Off l a s → Off l a (puts m s)
unfolding puts
off_puts l [] a s w o = o
off_puts l (store b i v ∷ m) a s w o =
    off_puts l m a (put s (store b i v)) (λ x k. w x (Memᴰ.tail k))
    (record { long = λ c. put_long s (store b i v) c ∙ o.long c; same = λ p. go p (put_at_lem s b i v p) (o.same p) })
  where
    go : (p : Place) → Set s b i v p → (byte_at s p ≡ byte_at a p) ⊎ Mem p (places l) → (byte_at (put s (store b i v)) p ≡ byte_at a p) ⊎ Mem p (places l)
    go p (here e q) t = inr (Memᴰ.cast e (w (store b i v) (Memᴰ.head refl)))
    go p (elsewhere d q) (inl e) = inl (q ∙ e)
    go p (elsewhere d q) (inr k) = inr k

-- where nothing may differ
off_none : (a s : State) → Off [] a s → s ≡ a
off_none a s o = λ i. record { table = at in_table (buffer in_table) i; order = at in_order (buffer in_order) i; log = at in_log (buffer in_log) i }
  where
    buffer : (b : Buffer) (i : ℕ) → get_or (buffer_of b s) i 0 ≡ get_or (buffer_of b a) i 0
    buffer b i = ⊎_elim (λ e. e) (λ k. absurd (Memᴰ.not-nil k)) (o.same (place b i))

    at : (b : Buffer) → ((i : ℕ) → get_or (buffer_of b s) i 0 ≡ get_or (buffer_of b a) i 0) → buffer_of b s ≡ buffer_of b a
    at b f = ext_get_or 0 (buffer_of b s) (buffer_of b a) (o.long b) (λ i h. f i)

-- of the right bytes, at all the places that may differ: nothing differs
pub mended : (l : List Store) (a s : State) → ((x : Store) → Mem x l → Right a x) → Off l a s → puts l s ≡ a
unfolding puts
mended [] a s w o = off_none a s o
mended (store b i v ∷ l) a s w o =
    mended l a (put s (store b i v)) (λ x k. w x (Memᴰ.tail k))
    (record {
      long = λ c. put_long s (store b i v) c ∙ o.long c;
      same = λ p. go p (put_at_lem s b i v p) (o.same p) (w (store b i v) (Memᴰ.head refl));
    })
  where
    rest : (p : Place) → (p ≡ place b i → ⊥) → (p ≡ place b i) ⊎ Mem p (places l) → Mem p (places l)
    rest p d (inl e) = absurd (d e)
    rest p d (inr k) = k

    stored : (p : Place) → p ≡ place b i → v ≡ get_or (buffer_of b a) i 0 → v ≡ byte_at a p
    stored p e q = q ∙ sym (ap (byte_at a) e)

    go : (p : Place) → Set s b i v p → (byte_at s p ≡ byte_at a p) ⊎ Mem p (places (store b i v ∷ l)) → Right a (store b i v)
        → (byte_at (put s (store b i v)) p ≡ byte_at a p) ⊎ Mem p (places l)
    go p (here e q) t (right h z) = inl (q (rw (o.long b) h) ∙ stored p e z)
    go p (elsewhere d q) (inl e) r = inl (q ∙ e)
    go p (elsewhere d q) (inr k) r = inr (rest p d (Memᴰ.cases_cons k))
