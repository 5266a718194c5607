-- Whatever cuts leave passes check 14.
use Prim.Native.Nat.{ℕ, zero, suc, ◌+◌, ◌-◌, ◌*◌, ◌≤◌, ◌<◌}
use Rattle.std.specs.Prelude.{Bool, not, ◌&&◌, ◌||◌, List, [], ◌∷◌, ◌≡◌, eqb, ltb}
use Rattle.std.proofs.Math.Bool.{true, false}
use Rattle.std.proofs.Math.Path.{refl, ap}
use Rattle.std.proofs.Common.{sym, ◌∙◌, not-suc-le-zero, add-zero, arith}
use Rattle.std.proofs.Math.ListN.{length, get_or}
use Rattle.std.proofs.lemmas.List.{get_or-replicate}
use borrow.Author.Tests.{ne_eqb, eq-eqb, eqb-true, not-false, le-ltb, lt-leb}
use Rattle.lists.specs.First.{any, first_none}
use Rattle.lists.specs.Mem.{Mem, Apart, apart_at, at_mem}
use Rattle.lists.specs.Which.{which_mem, which_apart}
use Rattle.lists.specs.Says.{either_side, true_false}
use Rattle.lists.specs.Truth.{or_neither}
use Rattle.diagrams.specs.Layout.{records}
use Rattle.orders.specs.Exchange.{exchange}
use Rattle.checks.specs.Stages.{clear, verdict_of, none, also, only_passed, clear_if}
use Rattle.undo.specs.Stores.{Buffer, in_log, State, buffer_of}
use Rattle.undo.specs.Mending.{puts_long}
use Rattle.undo.specs.Log.{entry_size, Entry, packed, entry_at, kind_at, number_at, seal_at, seal_mark, is_sealed, seal_count, counted, entries_held}
use Rattle.undo.specs.Log.{changed, changes, record_entry, pair_entry, entries_of, swap_cut, swap_stores, recovery_cut}
use Rattle.undo.specs.Sealed.{Sound, sealed_log, length_sealed, entry_byte, entry_back, seal_byte, seal_set, seal_counts}
use Rattle.undo.specs.Changes.{entry_sound, entries_count}
use Rattle.check_log.specs.BadLog.{bad_log_size, nonzero, some_byte, bad_seal, malformed, past, repeats, bad_entry, entry_stages, log_stages}
use Rattle.undo.specs.Survives.{Ready, Quiet, recoveries}
use Rattle.undo.proofs.Survives.{Undone, quiet, torn, torn_log, fits, recoveries_undone, recoveries_quiet, cut_early, cut_late}

-- ---- tests that fail

none_there : (p : ℕ → Bool) (n : ℕ) → ((j : ℕ) → j < n → p j ≡ false) → any p n ≡ false
none_there p n h = ap (λ m. ltb m n) (first_none p n (record { at = h })) ∙ le-ltb n n (omega arith)

zero_byte : (l : List ℕ) (i : ℕ) → get_or l i 0 ≡ 0 → nonzero l i ≡ false
zero_byte l i e = ap (λ b. not (eqb b 0)) e ∙ ap not (eq-eqb 0 0 refl)

no_byte : (l : List ℕ) (at n : ℕ) → ((j : ℕ) → j < n → get_or l (at + j) 0 ≡ 0) → some_byte l at n ≡ false
unfolding some_byte
no_byte l at n h = none_there (λ j. nonzero l (at + j)) n (λ j q. zero_byte l (at + j) (h j q))

pub same_size : (l m : List ℕ) → length l ≡ length m → bad_log_size m ≡ false → bad_log_size l ≡ false
unfolding bad_log_size
same_size l m e h = rw e h

-- a log that checks 14 and 15 pass is empty
pub unsealed_empty : (log : List ℕ) → bad_seal log ≡ false → is_sealed log ≡ false → get_or log (seal_at log) 0 ≡ 0
unfolding bad_seal
unsealed_empty log e u = eqb-true _ 0 (not-false _ (and_true _ (rw u at (or_neither (nonzero log (seal_at log) && not (is_sealed log)) _ e).0)))
  where
    and_true : (b : Bool) → (b && true) ≡ false → b ≡ false
    and_true true q = q
    and_true false q = refl

-- ---- the entries by their index

entry_of_lem : (numbers : List ℕ) (k : ℕ) (t o : List ℕ) (j : ℕ) (d : Entry) → j < length numbers
    → get_or (entries_of numbers k t o) j d ≡ record_entry t (get_or numbers j 0)
unfolding entries_of
entry_of_lem [] k t o j d h = absurd (not-suc-le-zero h)
entry_of_lem (i ∷ numbers) k t o zero d h = refl
entry_of_lem (i ∷ numbers) k t o (suc j) d h = entry_of_lem numbers k t o j d (omega arith)

entry_last : (numbers : List ℕ) (k : ℕ) (t o : List ℕ) (d : Entry) → get_or (entries_of numbers k t o) (length numbers) d ≡ pair_entry o k
unfolding entries_of
entry_last [] k t o d = refl
entry_last (i ∷ numbers) k t o d = entry_last numbers k t o d

-- ---- a log that a swap sealed

module _ (log : List ℕ) (numbers : List ℕ) (level : ℕ) (t o : List ℕ) (N n : ℕ)
    (room : entry_size * length (entries_of numbers level t o) + entry_size ≤ length log)
    (below : (i : ℕ) → Mem i numbers → i < N) (apart : Apart numbers) (pairs : level + 1 < n) where
  abbrev es : List Entry
  es = entries_of numbers level t o

  sound : (e : Entry) → Mem e es → Sound e
  sound = entry_sound numbers level t o

  abbrev L : List ℕ
  L = sealed_log log es

  abbrev d : Entry
  d = pair_entry o level

  L-long : length L ≡ length log
  L-long = length_sealed log es room sound

  good_seal : bad_seal L ≡ false
  unfolding bad_seal
  good_seal =
      rw (seal_set log es room sound, zero_byte L (seal_at L + 1) first, no_byte L (seal_at L + 4) 12 rest, le-ltb (entries_held L) (seal_count L) few)
      (off (nonzero L (seal_at L)))
    where
      off : (b : Bool) → ((b && false) || false) ≡ false
      off true = refl
      off false = refl

      first : get_or L (seal_at L + 1) 0 ≡ 0
      first = ap (λ i. get_or L i 0) at_first ∙ seal_byte log es room sound 0 (omega arith)
        where
          at_first : seal_at L + 1 ≡ seal_at log + 1 + 0
          at_first = omega (arith, L-long)

      rest : (j : ℕ) → j < 12 → get_or L (seal_at L + 4 + j) 0 ≡ 0
      rest j h = ap (λ i. get_or L i 0) at_rest ∙ seal_byte log es room sound (suc (suc (suc j))) (omega arith) ∙ get_or-replicate {A = ℕ} 12 j 0 0 h
        where
          at_rest : seal_at L + 4 + j ≡ seal_at log + 1 + suc (suc (suc j))
          at_rest = omega (arith, L-long)

      few : seal_count L ≤ entries_held L
      few = omega (arith, seal_counts log es room sound, L-long, room)

  -- entry k and its bytes
  module _ (k : ℕ) (h : k < length es) where
    byte : (j : ℕ) (e : Entry) → get_or es k d ≡ e → j < entry_size → get_or L (entry_size * k + j) 0 ≡ get_or (packed e) j 0
    byte j e q l = entry_byte log es room sound k j d h l ∙ ap (λ (x : Entry). get_or (packed x) j 0) q

    -- well formed, whatever it is of
    formed : (e : Entry) → get_or es k d ≡ e → get_or (packed e) 0 0 ≡ 0 → ltb 1 (get_or (packed e) 1 0) ≡ false
        → ((j : ℕ) → j < 4 → get_or (packed e) (12 + j) 0 ≡ 0)
        → (eqb (get_or (packed e) 1 0) 1 ≡ true → (j : ℕ) → j < 6 → get_or (packed e) (6 + j) 0 ≡ 0) → malformed L k ≡ false
    unfolding malformed
    formed e q z small last six =
        rw (
          zero_byte L (entry_size * k) start,
          ap (ltb 1) (byte 1 e q (omega arith)) ∙ small,
          no_byte L (entry_size * k + 12) 4 tail,
          byte 1 e q (omega arith),
        )
        (pair (eqb (get_or (packed e) 1 0) 1) refl)
      where
        start : get_or L (entry_size * k) 0 ≡ 0
        start = ap (λ i. get_or L i 0) (sym (add-zero (entry_size * k))) ∙ byte 0 e q (omega arith) ∙ z

        at : (a j : ℕ) → entry_size * k + a + j ≡ entry_size * k + (a + j)
        at a j = omega arith

        tail : (j : ℕ) → j < 4 → get_or L (entry_size * k + 12 + j) 0 ≡ 0
        tail j l = ap (λ i. get_or L i 0) (at 12 j) ∙ byte (12 + j) e q (omega arith) ∙ last j l

        pair : (b : Bool) → eqb (get_or (packed e) 1 0) 1 ≡ b → (b && some_byte L (entry_size * k + 6) 6) ≡ false
        pair true c = no_byte L (entry_size * k + 6) 6 (λ j l. ap (λ i. get_or L i 0) (at 6 j) ∙ byte (6 + j) e q (omega arith) ∙ six c j l)
        pair false c = refl

    kind_is : (e : Entry) → get_or es k d ≡ e → kind_at L k ≡ e.kind
    kind_is e q = byte 1 e q (omega arith)

    number_is : (e : Entry) → get_or es k d ≡ e → number_at L k ≡ e.number
    unfolding entry_at
    number_is e q = ap (λ (x : Entry). x.number) (entry_back log es room sound k d h) ∙ ap (λ (x : Entry). x.number) q

  -- the entry of a record
  record_good : (k : ℕ) → k < length numbers → bad_entry L N n k ≡ false
  unfolding bad_entry past repeats
  record_good k h =
      rw (
        formed k in_es (record_entry t i) is refl (le-ltb 1 0 (omega arith)) last (λ c. absurd (other c)),
        kind_is k in_es (record_entry t i) is,
        number_is k in_es (record_entry t i) is,
        lt-leb N i (below i (at_mem numbers k 0 h)),
      )
      (none_there _ k earlier)
    where
      i : ℕ
      i = get_or numbers k 0

      in_es : k < length es
      in_es = omega (arith, entries_count numbers level t o)

      is : get_or es k d ≡ record_entry t i
      is = entry_of_lem numbers level t o k d h

      last : (j : ℕ) → j < 4 → get_or (packed (record_entry t i)) (12 + j) 0 ≡ 0
      last zero l = refl
      last (suc zero) l = refl
      last (suc (suc zero)) l = refl
      last (suc (suc (suc zero))) l = refl
      last (suc (suc (suc (suc j)))) l = absurd (omega arith)

      other : eqb 0 1 ≡ true → ⊥
      other c = true_false (sym c ∙ ne_eqb 0 1 (λ z. omega arith))

      earlier : (j : ℕ) → j < k → (eqb (kind_at L j) 0 && eqb (number_at L j) i) ≡ false
      earlier j l =
          rw (
            number_is j (omega (arith, entries_count numbers level t o)) (record_entry t (get_or numbers j 0)) (entry_of_lem numbers level t o j d
                (omega arith)),
            ne_eqb (get_or numbers j 0) i (λ e. differ (apart_at numbers j k 0 apart (omega arith) h e)),
          )
          (off (eqb (kind_at L j) 0))
        where
          differ : j ≡ k → ⊥
          differ e = omega arith

          off : (b : Bool) → (b && false) ≡ false
          off true = refl
          off false = refl

  -- the entry of the order pair
  pair_good : bad_entry L N n (length numbers) ≡ false
  unfolding bad_entry past repeats
  pair_good =
      rw (
        formed (length numbers) in_es (pair_entry o level) is refl (le-ltb 1 1 (omega arith)) last (λ c. six),
        kind_is (length numbers) in_es (pair_entry o level) is,
        number_is (length numbers) in_es (pair_entry o level) is,
        ne_eqb 1 0 (λ z. omega arith),
        lt-leb (n - 1) level (omega arith),
      )
      (none_there _ (length numbers) earlier)
    where
      in_es : length numbers < length es
      in_es = omega (arith, entries_count numbers level t o)

      is : get_or es (length numbers) d ≡ pair_entry o level
      is = entry_last numbers level t o d

      last : (j : ℕ) → j < 4 → get_or (packed (pair_entry o level)) (12 + j) 0 ≡ 0
      last zero l = refl
      last (suc zero) l = refl
      last (suc (suc zero)) l = refl
      last (suc (suc (suc zero))) l = refl
      last (suc (suc (suc (suc j)))) l = absurd (omega arith)

      six : (j : ℕ) → j < 6 → get_or (packed (pair_entry o level)) (6 + j) 0 ≡ 0
      six zero l = refl
      six (suc zero) l = refl
      six (suc (suc zero)) l = refl
      six (suc (suc (suc zero))) l = refl
      six (suc (suc (suc (suc zero)))) l = refl
      six (suc (suc (suc (suc (suc zero))))) l = refl
      six (suc (suc (suc (suc (suc (suc j)))))) l = absurd (omega arith)

      earlier : (j : ℕ) → j < length numbers → (eqb (kind_at L j) 1 && eqb (number_at L j) level) ≡ false
      earlier j l =
          rw (
            kind_is j (omega (arith, entries_count numbers level t o)) (record_entry t (get_or numbers j 0)) (entry_of_lem numbers level t o j d l),
            ne_eqb 0 1 (λ z. omega arith),
          )

  pub sealed_accepted : bad_log_size log ≡ false → verdict_of (log_stages L N n) ≡ clear
  unfolding log_stages entry_stages
  sealed_accepted size = clear_if _ (also (only_passed 0 (same_size L log L-long size)) (also (only_passed _ good_seal) (also (record { at = entries }) none)))
    where
      few : {k : ℕ} → k < counted L → k < length es
      few l = omega (arith, entries_counted, l)
        where
          entries_counted : counted L ≡ length es
          entries_counted = rw (seal_set log es room sound) (seal_counts log es room sound)

      entries : (k : ℕ) → k < counted L → bad_entry L N n k ≡ false
      entries k l =
          either_side k (length numbers) (record_good k)
          (λ m. let z : k ≡ length numbers = omega (arith, few l, entries_count numbers level t o) in rw z pair_good)

-- ---- whatever a cut left

pub quiet_accepted : (t o : List ℕ) (N n : ℕ) (a : State) → Quiet t o a → bad_log_size a.log ≡ false → verdict_of (log_stages a.log N n) ≡ clear
unfolding log_stages entry_stages bad_seal
quiet_accepted t o N n a q size = clear_if _ (also (only_passed 0 size) (also (only_passed _ seal) (also (record { at = nothing }) none)))
  where
    unsealed : is_sealed a.log ≡ false
    unsealed = ap (λ b. eqb b seal_mark) q.empty ∙ ne_eqb 0 seal_mark (λ z. omega arith)

    seal : bad_seal a.log ≡ false
    seal = rw (zero_byte a.log (seal_at a.log) q.empty, unsealed)

    nothing : (k : ℕ) → k < counted a.log → bad_entry a.log N n k ≡ false
    nothing k h = absurd (not-suc-le-zero (rw unsealed at h))

pub recoveries_long : (b : Buffer) (fs : List ℕ) (a : State) → length (buffer_of b (recoveries fs a)) ≡ length (buffer_of b a)
unfolding recoveries
recoveries_long b [] a = refl
recoveries_long b (f ∷ fs) a = recoveries_long b fs (recovery_cut f a) ∙ puts_long _ a b

-- whatever is cut, the buffers are as long as they were
pub cut_long : (b : Buffer) (f : ℕ) (fs : List ℕ) (s : State) (image : List ℕ) (k : ℕ)
    → length (buffer_of b (recoveries fs (swap_cut f s image k))) ≡ length (buffer_of b s)
cut_long b f fs s image k = recoveries_long b fs (swap_cut f s image k) ∙ puts_long _ s b

module _ (s : State) (image : List ℕ) (k : ℕ) (ready : Ready s image k) (size : bad_log_size s.log ≡ false) where
  undone_accepted : (a : State) → length a.log ≡ length s.log → Undone s image k ready a
      → verdict_of (log_stages a.log (records s.table) (length s.order)) ≡ clear
  undone_accepted a e (quiet q) = quiet_accepted s.table s.order (records s.table) (length s.order) a q (same_size a.log s.log e size)
  undone_accepted a e (torn o) =
      rw (torn_log s image k ready a o)
      (sealed_accepted s.log (changes s.table image) k s.table s.order (records s.table) (length s.order) (fits s image k ready)
      (λ i m. (which_mem (changed s.table image) (records s.table) i m).0)
      (which_apart (changed s.table image) (records s.table)) ready.level size)

  -- so no log is refused after a cut, nor after several
  pub never_refused : (f : ℕ) (fs : List ℕ) → verdict_of (log_stages (recoveries fs (swap_cut f s image k)).log (records s.table) (length s.order)) ≡ clear
  never_refused f fs =
      either_side f (length (swap_stores s image k))
      (λ h. undone_accepted _ long (recoveries_undone s image k ready fs _ (cut_early s image k ready f h)))
      (λ h. quiet_accepted image (exchange s.order k) (records s.table) (length s.order) _
      (recoveries_quiet fs image (exchange s.order k) _ (cut_late s image k ready f h)) (same_size _ s.log long size))
    where
      long : length (recoveries fs (swap_cut f s image k)).log ≡ length s.log
      long = cut_long in_log f fs s image k
