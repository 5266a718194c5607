-- What stands in a buffer after a row of bytes is stored, and in a row of parts that are equally long.
use Prim.Native.Nat.{ℕ, zero, suc, ◌+◌, ◌*◌, ◌≤◌, ◌<◌}
use mathlib.Core.List.Memᴰ
use mathlib.Core.List.{List, [], ◌∷◌, ◌++◌}
use Rattle.std.specs.Prelude.{◌⊎◌, ◌≡◌, refl, length, set}
use Rattle.std.proofs.Common.{inl, inr, ◌∙◌, not-suc-le-zero, length-set, get_or-set_same, get_or-set_other}
use Rattle.std.proofs.Math.Path.{ap}
use native.Mathlib.Omega.{arith}
use Rattle.std.proofs.Math.ListN.{get_or, length-append, get_or-append}
use Rattle.std.proofs.Math.Seq.{get_or-append-add}
use Rattle.lists.specs.Mem.{Mem}
use Rattle.lists.specs.Each.{each}
use Rattle.undo.specs.Stores.{Poke, poke, pokes, run}

pub length_pokes : (ps : List Poke) (l : List ℕ) → length (pokes ps l) ≡ length l
unfolding pokes
length_pokes [] l = refl
length_pokes (poke i v ∷ ps) l = length_pokes ps (set l i v) ∙ length-set l i v

pub poked_out : (vs : List ℕ) (at : ℕ) (l : List ℕ) (i : ℕ) → (i < at) ⊎ (at + length vs ≤ i) → get_or (pokes (run at vs) l) i 0 ≡ get_or l i 0
unfolding pokes run
poked_out [] at l i h = refl
poked_out (v ∷ vs) at l i h = poked_out vs (suc at) (set l at v) i (next h) ∙ get_or-set_other l at i v 0 (apart h)
  where
    next : (i < at) ⊎ (at + suc (length vs) ≤ i) → (i < suc at) ⊎ (suc at + length vs ≤ i)
    next (inl h) = inl (omega arith)
    next (inr h) = inr (omega arith)

    apart : (i < at) ⊎ (at + suc (length vs) ≤ i) → i ≡ at → ⊥
    apart (inl h) e = omega arith
    apart (inr h) e = omega arith

pub poked_in : (vs : List ℕ) (at : ℕ) (l : List ℕ) (j : ℕ) → at + length vs ≤ length l → j < length vs
    → get_or (pokes (run at vs) l) (at + j) 0 ≡ get_or vs j 0
unfolding pokes run
poked_in [] at l j h k = absurd (not-suc-le-zero k)
poked_in (v ∷ vs) at l zero h k =
    ap (λ i. get_or (pokes (run (suc at) vs) (set l at v)) i 0) (none at)
    ∙ poked_out vs (suc at) (set l at v) at (inl (omega arith))
    ∙ get_or-set_same l at v 0 (omega arith)
  where
    none : (a : ℕ) → a + 0 ≡ a
    none a = omega arith
poked_in (v ∷ vs) at l (suc j) h k =
    ap (λ i. get_or (pokes (run (suc at) vs) (set l at v)) i 0) (one at j)
    ∙ poked_in vs (suc at) (set l at v) j (rw (length-set l at v) (omega arith)) (omega arith)
  where
    one : (a j : ℕ) → a + suc j ≡ suc a + j
    one a j = omega arith

-- ---- parts of m bytes each

module _ {A : Type 0} (f : A → List ℕ) (m : ℕ) where
  pub parts_length : (l : List A) → ((a : A) → Mem a l → length (f a) ≡ m) → length (each f l) ≡ m * length l
  unfolding each
  parts_length [] h = omega arith
  parts_length (a ∷ l) h =
      omega (arith, length-append (f a) (each f l), h a (Memᴰ.head refl), parts_length l (λ b k. h b (Memᴰ.tail k)), more m (length l))
    where
      more : (m n : ℕ) → m * suc n ≡ m + m * n
      more m n = omega arith

  pub part_at_lem : (l : List A) (k j : ℕ) (d : A) → ((a : A) → Mem a l → length (f a) ≡ m) → k < length l → j < m
      → get_or (each f l) (m * k + j) 0 ≡ get_or (f (get_or l k d)) j 0
  unfolding each
  part_at_lem [] k j d h p q = absurd (not-suc-le-zero p)
  part_at_lem (a ∷ l) zero j d h p q =
      ap (λ i. get_or (f a ++ each f l) i 0) (none m j) ∙ get_or-append (f a) (each f l) 0 j (rw (h a (Memᴰ.head refl)) q)
    where
      none : (m j : ℕ) → m * 0 + j ≡ j
      none m j = omega arith
  part_at_lem (a ∷ l) (suc k) j d h p q =
      ap (λ i. get_or (f a ++ each f l) i 0) (more (length (f a)) (h a (Memᴰ.head refl)))
      ∙ get_or-append-add (f a) (each f l) (m * k + j) 0
      ∙ part_at_lem l k j d (λ b w. h b (Memᴰ.tail w)) (omega arith) q
    where
      more : (n : ℕ) → n ≡ m → m * suc k + j ≡ n + (m * k + j)
      more n e = omega arith
