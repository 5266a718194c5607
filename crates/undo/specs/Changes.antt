-- The stores of the entries: they put right bytes, they go to the same places whatever the bytes are, and nothing else changes.
use Rattle.std.specs.Prelude.{ℕ, zero, suc, ◌+◌, ◌*◌, ◌/◌, ◌%◌, ◌≤◌, ◌<◌, Bool, true, false, cond, ◌||◌, List, [], ◌∷◌, ◌++◌, ◌⊎◌, ◌≡◌, refl, eqb, length, get_or, set, take}
use mathlib.Core.List.Memᴰ
use Rattle.std.proofs.lemmas.List.{map-append}
use Rattle.std.proofs.Common.{inl, inr, ⊎_elim, ap, sym, ◌∙◌, subst, add-zero, mod-lt, add-one, arith, get_or-set_other, eqb-true}
use Rattle.std.proofs.Math.Nat.{div-add-mod}
use Rattle.std.proofs.Math.ListN.{get_or-eq_default}
use Rattle.std.proofs.lemmas.Bool.{not-false}
use Rattle.lists.specs.Mem.{Mem}
use Rattle.lists.specs.Each.{each}
use Rattle.lists.specs.Which.{mem_which}
use Rattle.lists.specs.Says.{decided, says_eqb, either_side}
use Rattle.lists.specs.Truth.{by, or_neither}
use Rattle.diagrams.specs.Layout.{record_size, records}
use Rattle.orders.specs.Exchange.{length_exchange, exchange}
use Rattle.undo.specs.Stores.{Buffer, in_table, in_order, in_log, State, state, Store, Poke, poke, run, into, buffer_of}
use Rattle.undo.specs.Mending.{Place, place, place_of, places, byte_at, Off, Right, right}
use Rattle.undo.specs.Log.{Entry, eight, unlike, changed, changes, entries_of, entry_stores, putting}
use Rattle.undo.specs.Sealed.{Sound, eight_at}

-- ---- a row of bytes

run_right : (a : State) (b : Buffer) (vs : List ℕ) (at : ℕ) → at + length vs ≤ length (buffer_of b a)
    → ((j : ℕ) → j < length vs → get_or vs j 0 ≡ get_or (buffer_of b a) (at + j) 0) → (x : Store) → Mem x (into b (run at vs)) → Right a x
unfolding run
run_right a b [] at h f x m = absurd (Memᴰ.not-nil m)
run_right a b (v ∷ vs) at h f x m =
    ⊎_elim (λ e. subst (λ (y : Store). Right a y) (sym e) (right (omega arith) first))
    (λ k. run_right a b vs (suc at) (omega arith) rest x k)
    (Memᴰ.cases_cons m)
  where
    first : v ≡ get_or (buffer_of b a) at 0
    first = f 0 (omega arith) ∙ ap (λ i. get_or (buffer_of b a) i 0) (add-zero at)

    shift : (m n : ℕ) → m + suc n ≡ suc m + n
    shift m n = omega arith

    rest : (j : ℕ) → j < length vs → get_or vs j 0 ≡ get_or (buffer_of b a) (suc at + j) 0
    rest j l = f (suc j) (omega arith) ∙ ap (λ i. get_or (buffer_of b a) i 0) (shift at j)

run_place : (b : Buffer) (vs : List ℕ) (at j : ℕ) → at ≤ j → j < at + length vs → Mem (place b j) (places (into b (run at vs)))
unfolding run
run_place b [] at j h l = absurd (omega arith)
run_place b (v ∷ vs) at j h l =
    ⊎_elim (λ e. Memᴰ.head (ap (place b) e))
    (λ d. Memᴰ.tail (run_place b vs (suc at) j (omega arith) (omega arith)))
    (decided (says_eqb j at))

-- ---- the entries

pub entry_sound : (numbers : List ℕ) (k : ℕ) (t o : List ℕ) (e : Entry) → Mem e (entries_of numbers k t o) → Sound e
unfolding entries_of
entry_sound [] k t o e m =
    ⊎_elim (λ z. record { whole = ap (λ (e : Entry). length e.bytes) z }) (λ w. absurd (Memᴰ.not-nil w)) (Memᴰ.cases_cons m)
entry_sound (i ∷ numbers) k t o e m =
    ⊎_elim (λ z. record { whole = ap (λ (e : Entry). length e.bytes) z }) (entry_sound numbers k t o e) (Memᴰ.cases_cons m)

pub entries_count : (numbers : List ℕ) (k : ℕ) (t o : List ℕ) → length (entries_of numbers k t o) ≡ length numbers + 1
unfolding entries_of
entries_count [] k t o = refl
entries_count (i ∷ numbers) k t o = omega (arith, entries_count numbers k t o)

-- each puts the byte that the table or the order has
pub entries_right : (a : State) (numbers : List ℕ) (k : ℕ) → ((i : ℕ) → Mem i numbers → record_size * i + 8 ≤ length a.table)
    → k + 1 < length a.order → (x : Store) → Mem x (putting (entries_of numbers k a.table a.order)) → Right a x
unfolding entries_of putting each entry_stores
entries_right a [] k h l x m = run_right a in_order (get_or a.order k 0 ∷ get_or a.order (k + 1) 0 ∷ []) k (omega arith) two x (none m)
  where
    two : (j : ℕ) → j < 2 → get_or (get_or a.order k 0 ∷ get_or a.order (k + 1) 0 ∷ []) j 0 ≡ get_or a.order (k + j) 0
    two zero q = ap (λ i. get_or a.order i 0) (sym (add-zero k))
    two (suc zero) q = refl
    two (suc (suc j)) q = absurd (omega arith)

    none : {l : List Store} → Mem x (l ++ []) → Mem x l
    none {l} w = ⊎_elim (λ z. z) (λ z. absurd (Memᴰ.not-nil z)) (Memᴰ.append_cases l w)
entries_right a (i ∷ numbers) k h l x m =
    ⊎_elim
    (run_right a in_table (eight a.table (record_size * i)) (record_size * i) (h i (Memᴰ.head refl)) (eight_at a.table (record_size * i)) x)
    (entries_right a numbers k (λ j w. h j (Memᴰ.tail w)) l x)
    (Memᴰ.append_cases (into in_table (run (record_size * i) (eight a.table (record_size * i)))) m)

-- they go to the same places
pub same_places : (numbers : List ℕ) (k : ℕ) (t o u p : List ℕ) → places (putting (entries_of numbers k t o)) ≡ places (putting (entries_of numbers k u p))
unfolding entries_of putting each entry_stores run
same_places [] k t o u p = refl
same_places (i ∷ numbers) k t o u p =
    ap (λ (l : List Place).
    place in_table (record_size * i)
    ∷ place in_table (suc (record_size * i))
    ∷ place in_table (suc (suc (record_size * i)))
    ∷ place in_table (suc (suc (suc (record_size * i))))
    ∷ place in_table (suc (suc (suc (suc (record_size * i)))))
    ∷ place in_table (suc (suc (suc (suc (suc (record_size * i))))))
    ∷ place in_table (suc (suc (suc (suc (suc (suc (record_size * i)))))))
    ∷ place in_table (suc (suc (suc (suc (suc (suc (suc (record_size * i))))))))
    ∷ l)
    (same_places numbers k t o u p)

pub taken : {A : Type 0} (f : ℕ) (l : List A) (x : A) → Mem x (take f l) → Mem x l
taken zero l x m = absurd (Memᴰ.not-nil m)
taken (suc f) [] x m = m
taken (suc f) (y ∷ l) x m = ⊎_elim (λ e. Memᴰ.head e) (λ w. Memᴰ.tail (taken f l x w)) (Memᴰ.cases_cons m)

pub place_mem : (l : List Store) (x : Store) → Mem x l → Mem (place_of x) (places l)
place_mem [] x m = absurd (Memᴰ.not-nil m)
place_mem (y ∷ l) x m = ⊎_elim (λ e. Memᴰ.head (ap place_of e)) (λ w. Memᴰ.tail (place_mem l x w)) (Memᴰ.cases_cons m)

-- ---- nothing else changes

exchange_other : (o : List ℕ) (k j : ℕ) → (j ≡ k → ⊥) → (j ≡ suc k → ⊥) → get_or o j 0 ≡ get_or (exchange o k) j 0
unfolding exchange
exchange_other o k j d e =
    sym (get_or-set_other (set o k (get_or o (k + 1) 0)) (k + 1) j (get_or o k 0) 0 (λ z. e (z ∙ add-one k))
    ∙ get_or-set_other o k j (get_or o (k + 1) 0) 0 d)

unlike_same : (t u : List ℕ) (i : ℕ) → unlike t u i ≡ false → get_or t i 0 ≡ get_or u i 0
unlike_same t u i e = eqb-true _ _ (not-false _ e)

-- of eight tests that fail together, each fails
none_of : (a b c d e f g h : Bool) → (a || b || c || d || e || f || g || h) ≡ false → (j : ℕ) (P : ℕ → Type 0)
    → (a ≡ false → P 0) → (b ≡ false → P 1) → (c ≡ false → P 2) → (d ≡ false → P 3)
    → (e ≡ false → P 4) → (f ≡ false → P 5) → (g ≡ false → P 6) → (h ≡ false → P 7)
    → j < 8 → P j
none_of a b c d e f g h q j P p0 p1 p2 p3 p4 p5 p6 p7 l =
    let w7 = or_neither (a || b || c || d || e || f || g) h q in
    let w6 = or_neither (a || b || c || d || e || f) g w7.0 in
    let w5 = or_neither (a || b || c || d || e) f w6.0 in
    let w4 = or_neither (a || b || c || d) e w5.0 in
    let w3 = or_neither (a || b || c) d w4.0 in
    let w2 = or_neither (a || b) c w3.0 in
    let w1 = or_neither a b w2.0 in
    go j l (p0 w1.0) (p1 w1.1) (p2 w2.1) (p3 w3.1) (p4 w4.1) (p5 w5.1) (p6 w6.1) (p7 w7.1)
  where
    go : (j : ℕ) → j < 8 → P 0 → P 1 → P 2 → P 3 → P 4 → P 5 → P 6 → P 7 → P j
    go zero l r0 r1 r2 r3 r4 r5 r6 r7 = r0
    go (suc zero) l r0 r1 r2 r3 r4 r5 r6 r7 = r1
    go (suc (suc zero)) l r0 r1 r2 r3 r4 r5 r6 r7 = r2
    go (suc (suc (suc zero))) l r0 r1 r2 r3 r4 r5 r6 r7 = r3
    go (suc (suc (suc (suc zero)))) l r0 r1 r2 r3 r4 r5 r6 r7 = r4
    go (suc (suc (suc (suc (suc zero))))) l r0 r1 r2 r3 r4 r5 r6 r7 = r5
    go (suc (suc (suc (suc (suc (suc zero)))))) l r0 r1 r2 r3 r4 r5 r6 r7 = r6
    go (suc (suc (suc (suc (suc (suc (suc zero))))))) l r0 r1 r2 r3 r4 r5 r6 r7 = r7
    go (suc (suc (suc (suc (suc (suc (suc (suc j)))))))) l r0 r1 r2 r3 r4 r5 r6 r7 = absurd (omega arith)

-- a record that doesn't change
unchanged : (t u : List ℕ) (i : ℕ) → changed t u i ≡ false → (j : ℕ) → j < 8 → get_or t (record_size * i + j) 0 ≡ get_or u (record_size * i + j) 0
unfolding changed
unchanged t u i e j l =
    none_of _ _ _ _ _ _ _ _ e j (λ j. get_or t (record_size * i + j) 0 ≡ get_or u (record_size * i + j) 0)
    (λ q. ap (λ n. get_or t n 0) (add-zero (record_size * i)) ∙ unlike_same t u (record_size * i) q ∙ ap (λ n. get_or u n 0) (sym (add-zero (record_size * i))))
    (unlike_same t u (record_size * i + 1)) (unlike_same t u (record_size * i + 2)) (unlike_same t u (record_size * i + 3)) (unlike_same t u
    (record_size * i + 4))
    (unlike_same t u (record_size * i + 5)) (unlike_same t u (record_size * i + 6)) (unlike_same t u (record_size * i + 7)) l

-- what is written where
entry_place : (numbers : List ℕ) (k : ℕ) (t o : List ℕ) (i j : ℕ) → Mem i numbers → j < 8
    → Mem (place in_table (record_size * i + j)) (places (putting (entries_of numbers k t o)))
unfolding entries_of putting each entry_stores
entry_place [] k t o i j m l = absurd (Memᴰ.not-nil m)
entry_place (n ∷ numbers) k t o i j m l =
    subst (λ (x : List Place). Mem (place in_table (record_size * i + j)) x)
    (sym (map-append place_of (into in_table (run (record_size * n) (eight t (record_size * n)))) _))
    (⊎_elim
    (λ e. Memᴰ.append_left _ (run_place in_table (eight t (record_size * n)) (record_size * n) (record_size * i + j) (omega arith) (omega arith)))
    (λ w. Memᴰ.append_right (places (into in_table (run (record_size * n) (eight t (record_size * n))))) (entry_place numbers k t o i j w l))
    (Memᴰ.cases_cons m))

pair_place : (numbers : List ℕ) (k : ℕ) (t o : List ℕ) (j : ℕ) → (j ≡ k) ⊎ (j ≡ suc k) → Mem (place in_order j) (places (putting (entries_of numbers k t o)))
unfolding entries_of putting each entry_stores run
pair_place [] k t o j (inl e) = Memᴰ.head (ap (place in_order) e)
pair_place [] k t o j (inr e) = Memᴰ.tail (Memᴰ.head (ap (place in_order) e))
pair_place (n ∷ numbers) k t o j e =
    Memᴰ.tail (Memᴰ.tail (Memᴰ.tail (Memᴰ.tail
    (Memᴰ.tail (Memᴰ.tail (Memᴰ.tail (Memᴰ.tail (pair_place numbers k t o j e))))))))

-- before the new bytes are put, the state is off at their places only
pub only_changes : (t u o log : List ℕ) (k : ℕ) → length t ≡ length u → length t ≡ record_size * records t
    → Off (putting (entries_of (changes t u) k u (exchange o k))) (state u (exchange o k) log) (state t o log)
only_changes t u o log k long whole = record { long = lengths; same = same }
  where
    after : List Store
    after = putting (entries_of (changes t u) k u (exchange o k))

    lengths : (b : Buffer) → length (buffer_of b (state t o log)) ≡ length (buffer_of b (state u (exchange o k) log))
    lengths in_table = long
    lengths in_order = sym (length_exchange o k)
    lengths in_log = refl

    index : (j : ℕ) → record_size * (j / 8) + j % 8 ≡ j
    index j = div-add-mod j 8

    at_record : (j : ℕ) → j < length t → (changed t u (j / 8) ≡ true) ⊎ (changed t u (j / 8) ≡ false)
        → (get_or t j 0 ≡ get_or u j 0) ⊎ Mem (place in_table j) (places after)
    at_record j l (inl c) =
        inr (Memᴰ.cast (ap (place in_table) (sym (index j)))
        (entry_place (changes t u) k u (exchange o k) (j / 8) (j % 8) (mem_which (changed t u) (records t) (j / 8) (omega arith) c) (mod-lt j (omega arith))))
    at_record j l (inr c) =
        inl (ap (λ i. get_or t i 0) (sym (index j)) ∙ unchanged t u (j / 8) c (j % 8) (mod-lt j (omega arith)) ∙ ap (λ i. get_or u i 0) (index j))

    at_pair : (j : ℕ) → (j ≡ k) ⊎ (j ≡ k → ⊥) → (j ≡ suc k) ⊎ (j ≡ suc k → ⊥)
        → (get_or o j 0 ≡ get_or (exchange o k) j 0) ⊎ Mem (place in_order j) (places after)
    at_pair j (inl e) f = inr (pair_place (changes t u) k u (exchange o k) j (inl e))
    at_pair j (inr d) (inl e) = inr (pair_place (changes t u) k u (exchange o k) j (inr e))
    at_pair j (inr d) (inr e) = inl (exchange_other o k j d e)

    same : (p : Place) → (byte_at (state t o log) p ≡ byte_at (state u (exchange o k) log) p) ⊎ Mem p (places after)
    same (place in_table j) =
        either_side j (length t) (λ l. at_record j l (by (changed t u (j / 8))))
        (λ l. inl (get_or-eq_default t 0 l ∙ sym (get_or-eq_default u 0 (rw long at l))))
    same (place in_order j) = at_pair j (decided (says_eqb j k)) (decided (says_eqb j (suc k)))
    same (place in_log j) = inl refl

-- no store of an entry goes to the log
into_one : (b : Buffer) (ps : List Poke) (c : Buffer) (j : ℕ) → Mem (place c j) (places (into b ps)) → c ≡ b
into_one b [] c j m = absurd (Memᴰ.not-nil m)
into_one b (poke i v ∷ ps) c j m = ⊎_elim (λ e. same e) (into_one b ps c j) (Memᴰ.cases_cons m)
  where
    same : place c j ≡ place b i → c ≡ b
    same e = cc

entry_log : (e : Entry) (j : ℕ) → Mem (place in_log j) (places (entry_stores e)) → ⊥
unfolding entry_stores
entry_log e j m = go (eqb e.kind 0) m
  where
    go : (b : Bool)
        → Mem (place in_log j) (places (cond b (into in_table (run (record_size * e.number) e.bytes)) (into in_order (run e.number (take 2 e.bytes)))))
        → ⊥
    go true m =
        let q : in_log ≡ in_table = into_one in_table (run (record_size * e.number) e.bytes) in_log j m in
        let z : ◌≡◌ {A = ℕ} 0 1 = cc in
        omega arith
    go false m =
        let q : in_log ≡ in_order = into_one in_order (run e.number (take 2 e.bytes)) in_log j m in
        let z : ◌≡◌ {A = ℕ} 0 1 = cc in
        omega arith

pub putting_log : (es : List Entry) (j : ℕ) → Mem (place in_log j) (places (putting es)) → ⊥
unfolding putting each
putting_log [] j m = Memᴰ.not-nil m
putting_log (e ∷ es) j m =
    ⊎_elim (entry_log e j) (putting_log es j)
    (Memᴰ.append_cases (places (entry_stores e))
    (subst (λ (x : List Place). Mem (place in_log j) x) (map-append place_of (entry_stores e) (each entry_stores es)) m))
