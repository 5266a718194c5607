-- The laws of the steps of the writing part.
use Prim.Native.Nat.{ℕ, suc, ◌+◌, ◌-◌, ◌*◌, ◌≤◌, ◌<◌}
use mathlib.Core.Bool.{Bool, true, false, cond, not, ◌&&◌, ◌||◌}
use mathlib.Core.List.Memᴰ
use mathlib.Core.List.{List, [], ◌∷◌, ◌++◌, map, map-append, append-nil}
use mathlib.Core.Logic.{⊎_elim}
use mathlib.Core.Path.{◌≡◌, refl, ap, ap₂, sym, ◌∙◌}
use native.Mathlib.Omega.{arith}
use lib.Dec.{eqb}
use lib.ListN.{length, get_or, set, take, length-append, length-map, length-set}
use lib.Seq.{get_or-set_other, get_or-set_same}
use native.Mathlib.Numerals.{add-one}
use borrow.Author.Rules.{rules}
use Rattle.std.specs.Cmp.Lexicographic.{pointwise}
use Rattle.lists.specs.Count.{count}
use Rattle.lists.specs.Mem.{Mem}
use Rattle.lists.specs.Which.{which, which_mem, which_length}
use Rattle.lists.specs.Each.{each, each_append, each_mem}
use Rattle.lists.specs.Ranks.{count_before}
use Rattle.diagrams.specs.Layout.{record_size, records}
use Rattle.orders.specs.Exchange.{exchange}
use Rattle.undo.specs.Stores.{in_table, in_order, in_log, state, Store, store, store_in, Poke, poke, pokes, run, into, run_append}
use Rattle.undo.specs.Wrote.{Wrote, wrote_none, wrote_more, wrote_as, wrote_long, Spent, spent_more, spent_as, spent_in}
use Rattle.undo.specs.Log.{seal_mark, entry_size, Entry, eight, packed, seal_at, seal_bytes, record_entry, pair_entry}
use Rattle.undo.specs.Log.{changed, changes, entries_of, entries_needed, entries_held}
use Rattle.undo.specs.Log.{entry_stores, logging, sealing, putting, swap_stores}
use Rattle.undo.specs.Changes.{taken}
use Rattle.undo.specs.Sealed.{seal_pokes}
use Rattle.commits.specs.Steps.{entries_below, LoggedOf, AllLogged, log_pokes, record_pokes}

-- ---- what changes

-- eight bytes that are the same at each place, or differ at one
not_all : (a b c d e f g h : Bool)
    → not (a && (b && (c && (d && (e && (f && (g && (h && true))))))))
    ≡ (not a || not b || not c || not d || not e || not f || not g || not h)
not_all false b c d e f g h = refl
not_all true false c d e f g h = refl
not_all true true false d e f g h = refl
not_all true true true false e f g h = refl
not_all true true true true false f g h = refl
not_all true true true true true false g h = refl
not_all true true true true true true false h = refl
not_all true true true true true true true false = refl
not_all true true true true true true true true = refl

pub record_changed : {b : Bool} {x y : List ℕ} (t u : List ℕ) (i : ℕ) → x ≡ eight t (record_size * i) → y ≡ eight u (record_size * i)
    → b ≡ not (pointwise eqb x y) → b ≡ changed t u i
unfolding changed
record_changed t u i p q e = e ∙ ap₂ (λ (x y : List ℕ). not (pointwise eqb x y)) p q ∙ not_all _ _ _ _ _ _ _ _

pub needed_is : (t u : List ℕ) {n : ℕ} → n ≡ count (changed t u) (records t) → n + 1 ≡ entries_needed t u
unfolding entries_needed
needed_is t u e = omega (arith, e, which_length (changed t u) (records t))

-- ---- the entries one after the other

below_more : (t u : List ℕ) (i : ℕ) → entries_below t u (i + 1) ≡ entries_below t u i ++ map (record_entry t) (cond (changed t u i) (i ∷ []) [])
unfolding which
below_more t u i = ap (entries_below t u) (add-one i) ∙ map-append (record_entry t) (which (changed t u) i) (cond (changed t u i) (i ∷ []) [])

below_count : (t u : List ℕ) (i : ℕ) → length (entries_below t u i) ≡ count (changed t u) i
below_count t u i = length-map (which (changed t u) i) (record_entry t) ∙ which_length (changed t u) i

packed_long : (t : List ℕ) (l : List ℕ) → length (each packed (map (record_entry t) l)) ≡ entry_size * length (map (record_entry t) l)
unfolding each
packed_long t [] = refl
packed_long t (i ∷ l) = omega (arith, packed_long t l)

-- one entry more
logged_more : {es : List Entry} {f n r r' : ℕ} {x l m l' : List ℕ} (e : Entry) → length (each packed es) ≡ entry_size * length es
    → LoggedOf es f l m n r → x ≡ packed e → Wrote r (run (entry_size * n) x) m l' r' → LoggedOf (es ++ (e ∷ [])) f l l' (n + 1) r'
unfolding each
logged_more {es} {n = n} {x = x} e long p q w =
    record { wrote = wrote_as (wrote_more p.wrote w) (sym both); entries = omega (arith, p.entries, length-append es (e ∷ [])) }
  where
    place : length (each packed es) ≡ entry_size * n
    place = omega (arith, long, p.entries)

    both : run 0 (each packed (es ++ (e ∷ []))) ≡ run 0 (each packed es) ++ run (entry_size * n) x
    both =
        ap (run 0) (each_append packed es (e ∷ []))
        ∙ run_append 0 (each packed es) (packed e ++ [])
        ∙ ap₂ (λ (k : ℕ) (y : List ℕ). run 0 (each packed es) ++ run k y) (omega (arith, place)) (append-nil (packed e) ∙ sym q)

module _ {f : ℕ} {l : List ℕ} (t u : List ℕ) where
  pub logs_begin : LoggedOf (entries_below t u 0) f l l 0 f
  unfolding which each run
  logs_begin = record { wrote = wrote_none; entries = refl }

  module _ (i : ℕ) {b : Bool} {n r : ℕ} {m : List ℕ} (w : LoggedOf (entries_below t u i) f l m n r) (e : b ≡ changed t u i) where
    pub logs_go : {x l' : List ℕ} {r' : ℕ} → b ≡ true → x ≡ packed (record_entry t i) → Wrote r (run (entry_size * n) x) m l' r'
        → LoggedOf (entries_below t u (i + 1)) f l l' (n + 1) r'
    logs_go h p v = let c : changed t u i ≡ true = sym e ∙ h in rw (below_more t u i, c) (logged_more _ (packed_long t (which (changed t u) i)) w p v)

    pub logs_rest : b ≡ false → LoggedOf (entries_below t u (i + 1)) f l m n r
    logs_rest h = let c : changed t u i ≡ false = sym e ∙ h in rw (below_more t u i, c) (rw append-nil w)

    -- the log has room for one more
    pub logs_room : b ≡ true → i < records t → entries_needed t u ≤ entries_held l → length m ≡ length l → entry_size * n + entry_size ≤ length m
    unfolding entries_needed
    logs_room h less room long =
        let c : changed t u i ≡ true = sym e ∙ h in
        omega (
          arith,
          room,
          long,
          w.entries,
          below_count t u i,
          which_length (changed t u) (records t),
          count_before (changed t u) (records t) i less c,
        )

  pub logs_end : {i n r : ℕ} {l' : List ℕ} → LoggedOf (entries_below t u i) f l l' n r → i ≡ records t → AllLogged t u f l l' n r
  unfolding entries_needed
  logs_end {i} {n} {r} {l'} w e =
      let all : LoggedOf (entries_below t u (records t)) f l l' n r = rw e at w in
      record { logged = all; needed = omega (arith, all.entries, length-map (changes t u) (record_entry t)) }

pub ruleset logs = (logs_begin, logs_go, logs_rest, logs_room, logs_end, rules)

-- ---- the seal, and the whole log

pub seal_made : {x l m l' : List ℕ} {f r r' : ℕ} (n : ℕ) → x ≡ seal_bytes n → Wrote f (run (seal_at l + 1) x) l m r
    → Wrote r (poke (seal_at l) seal_mark ∷ []) m l' r' → Wrote f (seal_pokes l n) l l' r'
seal_made {x} {l} n e w v = wrote_more (wrote_as w (ap (run (seal_at l + 1)) e)) v

pub log_made : {x l m m' l' : List ℕ} {f n r r' r'' : ℕ} (t u o : List ℕ) (k : ℕ) → AllLogged t u f l m n r → x ≡ packed (pair_entry o k)
    → Wrote r (run (entry_size * n) x) m m' r' → Wrote r' (seal_pokes m' (n + 1)) m' l' r'' → Wrote f (log_pokes t u o l k) l l' r''
unfolding entries_of
log_made {l = l} {m' = m'} {l' = l'} {f = f} {n = n} {r' = r'} t u o k p e w v = wrote_more all.wrote (wrote_as v same_seal)
  where
    all : LoggedOf (entries_below t u (records t) ++ (pair_entry o k ∷ [])) f l m' (n + 1) r'
    all = logged_more (pair_entry o k) (packed_long t (changes t u)) p.logged e w

    same_seal : seal_pokes m' (n + 1) ≡ seal_pokes l (entries_needed t u)
    same_seal =
        ap₂ (λ (i j : ℕ). run (i - entry_size + 1) (seal_bytes j) ++ (poke (i - entry_size) seal_mark ∷ []))
        (wrote_long w ∙ wrote_long p.logged.wrote) p.needed

-- ---- one record after the other: those from i on are still as they were

low_pokes : (ps : List Poke) (l : List ℕ) (b j : ℕ) → ((i v : ℕ) → Mem (poke i v) ps → i < b) → b ≤ j → get_or (pokes ps l) j 0 ≡ get_or l j 0
unfolding pokes
low_pokes [] l b j h q = refl
low_pokes (poke i v ∷ ps) l b j h q =
    low_pokes ps (set l i v) b j (λ k w m. h k w (Memᴰ.tail m)) q ∙ get_or-set_other l i j v 0 (λ e. omega (arith, h i v (Memᴰ.head refl)))

run_low : (vs : List ℕ) (at i v : ℕ) → Mem (poke i v) (run at vs) → i < at + length vs
unfolding run
run_low [] at i v m = absurd (Memᴰ.not-nil m)
run_low (w ∷ vs) at i v m = ⊎_elim (λ e. here e) (λ k. omega (arith, run_low vs (suc at) i v k)) (Memᴰ.cases_cons m)
  where
    here : poke i v ≡ poke at w → i < at + suc (length vs)
    here e = let z : i ≡ at = cc in omega arith

records_low : (p : ℕ → Bool) (u : List ℕ) (m i v : ℕ) → Mem (poke i v) (each (record_pokes u) (which p m)) → i < record_size * m
records_low p u m i v k =
    let w = each_mem (record_pokes u) (poke i v) (which p m) k in
    omega (arith, run_low (eight u (record_size * w.0)) (record_size * w.0) i v w.2, (which_mem p m w.0 w.1).0)

changed_same : (t m u : List ℕ) (i : ℕ) → ((j : ℕ) → record_size * i ≤ j → get_or m j 0 ≡ get_or t j 0) → changed m u i ≡ changed t u i
unfolding changed
changed_same t m u i h =
    rw (
      h (record_size * i) (omega arith),
      h (record_size * i + 1) (omega arith),
      h (record_size * i + 2) (omega arith),
      h (record_size * i + 3) (omega arith),
      h (record_size * i + 4) (omega arith),
      h (record_size * i + 5) (omega arith),
      h (record_size * i + 6) (omega arith),
      h (record_size * i + 7) (omega arith),
    )

module _ {f : ℕ} (t u : List ℕ) where
  pub puts_begin : Wrote f (each (record_pokes u) (which (changed t u) 0)) t t f
  unfolding which each
  puts_begin = wrote_none

  module _ (i : ℕ) {b : Bool} {r : ℕ} {m : List ℕ} (w : Wrote f (each (record_pokes u) (which (changed t u) i)) t m r) (e : b ≡ changed m u i) where
    -- record i is still as it was
    still : (j : ℕ) → record_size * i ≤ j → get_or m j 0 ≡ get_or t j 0
    still j q =
        ap (λ (l : List ℕ). get_or l j 0) w.bytes
        ∙ low_pokes (take f (each (record_pokes u) (which (changed t u) i))) t (record_size * i) j
        (λ k v e. records_low (changed t u) u i k v (taken f (each (record_pokes u) (which (changed t u) i)) (poke k v) e)) q

    same : b ≡ changed t u i
    same = e ∙ changed_same t m u i still

    more : each (record_pokes u) (which (changed t u) (i + 1))
        ≡ each (record_pokes u) (which (changed t u) i) ++ each (record_pokes u) (cond (changed t u i) (i ∷ []) [])
    unfolding which
    more =
        ap (λ n. each (record_pokes u) (which (changed t u) n)) (add-one i)
        ∙ each_append (record_pokes u) (which (changed t u) i) (cond (changed t u i) (i ∷ []) [])

    pub puts_go : {x t' : List ℕ} {r' : ℕ} → b ≡ true → x ≡ eight u (record_size * i) → Wrote r (run (record_size * i) x) m t' r'
        → Wrote f (each (record_pokes u) (which (changed t u) (i + 1))) t t' r'
    unfolding each
    puts_go h p v =
        let c : changed t u i ≡ true = sym same ∙ h in
        rw (more, c) (wrote_more w (wrote_as v (ap (run (record_size * i)) p ∙ sym (append-nil (record_pokes u i)))))

    pub puts_rest : b ≡ false → Wrote f (each (record_pokes u) (which (changed t u) (i + 1))) t m r
    unfolding each
    puts_rest h = let c : changed t u i ≡ false = sym same ∙ h in rw (more, c) (rw append-nil w)

  pub puts_end : {i r : ℕ} {t' : List ℕ} → Wrote f (each (record_pokes u) (which (changed t u) i)) t t' r → i ≡ records t
      → Wrote f (each (record_pokes u) (changes t u)) t t' r
  puts_end {i} {r} {t'} w e = rw e at w

pub ruleset puts = (puts_begin, puts_go, puts_rest, puts_end, rules)

-- ---- the whole

table_stores : (u : List ℕ) (numbers : List ℕ) → into in_table (each (record_pokes u) numbers) ≡ each entry_stores (map (record_entry u) numbers)
unfolding each entry_stores
table_stores u [] = refl
table_stores u (i ∷ numbers) =
    map-append (store_in in_table) (record_pokes u i) (each (record_pokes u) numbers)
    ∙ ap (λ (x : List Store). into in_table (record_pokes u i) ++ x) (table_stores u numbers)

exchanged : (o : List ℕ) (k : ℕ) → k + 1 < length o → (get_or o (k + 1) 0 ≡ get_or (exchange o k) k 0) × (get_or o k 0 ≡ get_or (exchange o k) (k + 1) 0)
unfolding exchange
exchanged o k h = (
  sym (get_or-set_other (set o k (get_or o (k + 1) 0)) (k + 1) k (get_or o k 0) 0 (λ e. omega arith) ∙ get_or-set_same o k (get_or o (k + 1) 0) 0
      (omega arith)),
  sym (get_or-set_same (set o k (get_or o (k + 1) 0)) (k + 1) (get_or o k 0) 0 (rw (length-set o k (get_or o (k + 1) 0)) h)),
)

pair_stores_of : (k : ℕ) (p : List ℕ) → into in_order (run k (get_or p k 0 ∷ get_or p (k + 1) 0 ∷ [])) ≡ each entry_stores (pair_entry p k ∷ [])
unfolding each entry_stores run
pair_stores_of k p = refl

new_stores : (u o : List ℕ) (k : ℕ) (numbers : List ℕ) → k + 1 < length o
    → into in_table (each (record_pokes u) numbers) ++ into in_order (run k (get_or o (k + 1) 0 ∷ get_or o k 0 ∷ [])) ≡ putting (entries_of numbers k u
    (exchange o k))
unfolding putting entries_of
new_stores u o k numbers h =
    ap₂ (λ (x : List Store) (y : List Store). x ++ y) (table_stores u numbers)
    (ap₂ (λ (a b : ℕ). into in_order (run k (a ∷ b ∷ []))) (exchanged o k h).0 (exchanged o k h).1 ∙ pair_stores_of k (exchange o k))
    ∙ sym (each_append entry_stores (map (record_entry u) numbers) (pair_entry (exchange o k) k ∷ []))

pub commit_made : {t t' o o' l m l' : List ℕ} {f r1 r2 r3 r4 : ℕ} (u : List ℕ) (k : ℕ)
    → Wrote f (log_pokes t u o l k) l m r1
    → Wrote r1 (each (record_pokes u) (changes t u)) t t' r2
    → Wrote r2 (run k (get_or o (k + 1) 0 ∷ get_or o k 0 ∷ [])) o o' r3
    → Wrote r3 (poke (seal_at m) 0 ∷ []) m l' r4
    → k + 1 < length o
    → Spent f (swap_stores (state t o l) u k) (state t o l) (state t' o' l') r4
unfolding swap_stores logging sealing
commit_made {t} {t'} {o} {o'} {l} {m} {l'} {f} {r1} {r2} {r3} {r4} u k a b c d h =
    spent_more
    (spent_as (spent_in in_log (state t o l) a)
    (map-append (store_in in_log) (run 0 (each packed (entries_of (changes t u) k t o))) (seal_pokes l (entries_needed t u))))
    (spent_more
    (spent_as (spent_more (spent_in in_table (state t o m) b) (spent_in in_order (state t' o m) c)) (new_stores u o k (changes t u) h))
    (spent_as (spent_in in_log (state t' o' m) d) (ap (λ n. store in_log (n - entry_size) 0 ∷ []) (wrote_long a))))
