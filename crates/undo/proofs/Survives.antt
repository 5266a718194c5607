-- Laws of what specs/Survives.antt defines.
use Rattle.std.specs.Prelude.{ℕ, zero, suc, ◌+◌, ◌-◌, ◌*◌, ◌≤◌, ◌<◌, false, ◌≡◌, refl, eqb, set}
use mathlib.Core.List.{List, [], ◌∷◌, ◌++◌}
use Rattle.std.proofs.Common.{inl, inr, ⊎_elim, sym, ◌∙◌, length-set, take_all, ext_get_or, ne_eqb}
use Rattle.std.proofs.Math.Path.{ap, ap₂, subst}
use native.Mathlib.Omega.{arith}
use Rattle.std.proofs.Math.ListN.{length, get_or, take, length-append, length-map, length-take}
use Rattle.std.proofs.Math.Seq.{take-append-le, get_or-set_same}
use Rattle.lists.specs.Mem.{Mem}
use Rattle.lists.specs.Which.{which_mem}
use Rattle.lists.specs.Each.{each}
use Rattle.lists.specs.Says.{either_side}
use Rattle.diagrams.specs.Layout.{record_size, records}
use Rattle.orders.specs.Exchange.{exchange, length_exchange}
use Rattle.undo.specs.Stores.{in_log, State, state, Store, Poke, poke, pokes, run, into, store_in, held, put, puts}
use Rattle.undo.specs.Stores.{puts_append, puts_both, cut_into, take_run}
use Rattle.undo.specs.Mending.{Place, place, place_of, Off, Right, off_puts, mended}
use Rattle.undo.specs.Rows.{length_pokes, poked_out, parts_length}
use Rattle.undo.specs.Log.{seal_mark, entry_size, Entry, pair_entry, packed, seal_at, is_sealed, seal_bytes}
use Rattle.undo.specs.Log.{changed, changes, entries_needed, old_entries, new_entries}
use Rattle.undo.specs.Log.{logging, sealing, putting, clearing, swap_stores, recovery_stores, recovered, swap_cut, recovery_cut}
use Rattle.undo.specs.Sealed.{seal_pokes, sealed_log, sealed_state, length_sealed, recovery_back}
use Rattle.undo.specs.Changes.{entry_sound, entries_count, entries_right, same_places, taken, place_mem, only_changes, putting_log}
use Rattle.undo.specs.Survives.{Quiet, Ready, recoveries}

-- ---- with the log empty a recovery does nothing

no_stores : (log : List ℕ) → get_or log (seal_at log) 0 ≡ 0 → recovery_stores log ≡ []
unfolding recovery_stores
no_stores log e = let z : is_sealed log ≡ false = ap (λ b. eqb b seal_mark) e ∙ ne_eqb 0 seal_mark (λ z. omega arith) in rw z

quiet_cut : (f : ℕ) (t o : List ℕ) (s : State) → Quiet t o s → Quiet t o (recovery_cut f s)
unfolding puts
quiet_cut f t o s q = rw (no_stores s.log q.empty) (nothing f)
  where
    nothing : (f : ℕ) → Quiet t o (puts (take f []) s)
    nothing zero = q
    nothing (suc f) = q

pub quiet_whole : (t o : List ℕ) (s : State) → Quiet t o s → Quiet t o (recovered s)
unfolding puts
quiet_whole t o s q = rw (no_stores s.log q.empty) q

pub recoveries_quiet : (fs : List ℕ) (t o : List ℕ) (a : State) → Quiet t o a → Quiet t o (recoveries fs a)
unfolding recoveries
recoveries_quiet [] t o a q = q
recoveries_quiet (f ∷ fs) t o a q = recoveries_quiet fs t o (recovery_cut f a) (quiet_cut f t o a q)

-- ---- a swap

module _ (s : State) (image : List ℕ) (k : ℕ) (ready : Ready s image k) where
  abbrev old : List Entry
  old = old_entries s image k

  abbrev new : List Entry
  new = new_entries s image k

  -- the states with the seal set: before the new bytes, and after them
  abbrev sealed : State
  sealed = held in_log (sealed_log s.log old) s

  abbrev made : State
  made = state image (exchange s.order k) (sealed_log s.log old)

  pub old_count : length old ≡ entries_needed s.table image
  unfolding entries_needed
  old_count = entries_count (changes s.table image) k s.table s.order

  pub fits : entry_size * length old + entry_size ≤ length s.log
  unfolding entries_needed
  fits = omega (arith, old_count, ready.room)

  inside : (i : ℕ) → Mem i (changes s.table image) → record_size * i + record_size ≤ length s.table
  inside i m = omega (arith, (which_mem (changed s.table image) (records s.table) i m).0, ready.whole)

  old_right : (x : Store) → Mem x (putting old) → Right sealed x
  old_right = entries_right sealed (changes s.table image) k inside ready.level

  new_right : (x : Store) → Mem x (putting new) → Right made x
  new_right =
      entries_right made (changes s.table image) k (λ i m. rw (sym ready.long) (inside i m))
      (rw (length_exchange s.order k) ready.level)

  -- logging and sealing
  sealed_is : puts (logging old ++ sealing s.log (entries_needed s.table image)) s ≡ sealed
  sealed_is = ap (λ n. puts (logging old ++ sealing s.log n) s) (sym old_count) ∙ sealed_state s old

  log_back : recovery_stores (sealed_log s.log old) ≡ putting old ++ (clearing s.log ∷ [])
  log_back = recovery_back s.log old fits (entry_sound (changes s.table image) k s.table s.order) (pair_entry [] 0)

  log_long : length (sealed_log s.log old) ≡ length s.log
  log_long = length_sealed s.log old fits (entry_sound (changes s.table image) k s.table s.order)

  -- the seal cleared
  quiet_clear : (a : State) → a.log ≡ sealed_log s.log old → Quiet a.table a.order (puts (clearing s.log ∷ []) a)
  unfolding puts put
  quiet_clear a e =
      let l : length a.log ≡ length s.log = ap length e ∙ log_long in
      record {
        table_is = refl;
        order_is = refl;
        empty =
            ap (λ n. get_or (set a.log (seal_at s.log) 0) (n - entry_size) 0) (length-set a.log (seal_at s.log) 0 ∙ l)
            ∙ get_or-set_same a.log (seal_at s.log) 0 0 (omega (arith, fits));
      }

  -- a state in the midst of a swap, or of a recovery, whose clearing store wasn't made
  pub data Undone (a : State) : Type 0 where
    quiet : Quiet s.table s.order a → Undone a
    torn : Off (putting old) sealed a → Undone a

  pub torn_log : (a : State) → Off (putting old) sealed a → a.log ≡ sealed_log s.log old
  torn_log a o =
      ext_get_or 0 a.log (sealed_log s.log old) (o.long in_log)
      (λ j h. ⊎_elim (λ e. e) (λ m. absurd (putting_log old j m)) (o.same (place in_log j)))

  -- ---- cut before the seal is set

  entries_long : length (each packed old) ≡ entry_size * length old
  entries_long =
      parts_length packed entry_size old
      (λ e m. let sound = entry_sound (changes s.table image) k s.table s.order e m in
      omega (arith, length-append e.bytes (0 ∷ 0 ∷ 0 ∷ 0 ∷ []), sound.whole))

  abbrev needed : ℕ
  needed = entries_needed s.table image

  -- the bytes of the entries, those of the seal but its first, and all of the seal
  abbrev entry_bits : List Poke
  entry_bits = run 0 (each packed old)

  abbrev other_bits : List Poke
  other_bits = run (seal_at s.log + 1) (seal_bytes needed)

  abbrev seal_bits : List Poke
  seal_bits = seal_pokes s.log needed

  early_log : ℕ → List ℕ
  early_log f = pokes (take (f - length entry_bits) seal_bits) (pokes (take f entry_bits) s.log)

  early_is : (f : ℕ) → puts (take f (logging old ++ sealing s.log needed)) s ≡ held in_log (early_log f) s
  unfolding logging sealing early_log
  early_is f =
      puts_both f (into in_log entry_bits) (into in_log seal_bits) s
      ∙ ap (λ (a : State). puts (take (f - length (into in_log entry_bits)) (into in_log seal_bits)) a) (cut_into in_log f entry_bits s)
      ∙ cut_into in_log (f - length (into in_log entry_bits)) seal_bits _
      ∙ ap (λ n. held in_log (pokes (take (f - n) seal_bits) (pokes (take f entry_bits) s.log)) s) (length-map entry_bits (store_in in_log))

  early : (f : ℕ) → f < length (logging old ++ sealing s.log needed) → Quiet s.table s.order (held in_log (early_log f) s)
  unfolding logging sealing early_log
  early f h =
      record {
        table_is = refl;
        order_is = refl;
        empty =
            ap (λ n. get_or (early_log f) (n - entry_size) 0)
            (length_pokes (take (f - length entry_bits) seal_bits) _ ∙ length_pokes (take f entry_bits) s.log)
            ∙ ap (λ (ps : List Poke). get_or (pokes ps (pokes (take f entry_bits) s.log)) (seal_at s.log) 0) few
            ∙ poked_out (take (f - length entry_bits) (seal_bytes needed)) (seal_at s.log + 1) _ (seal_at s.log) (inl (omega arith))
            ∙ ap (λ (ps : List Poke). get_or (pokes ps s.log) (seal_at s.log) 0) (take_run f 0 (each packed old))
            ∙ poked_out (take f (each packed old)) 0 s.log (seal_at s.log) (inr (omega (arith, length-take f (each packed old), entries_long, fits)))
            ∙ ready.empty;
      }
    where
      few : take (f - length entry_bits) seal_bits ≡ run (seal_at s.log + 1) (take (f - length entry_bits) (seal_bytes needed))
      few =
          take-append-le (f - length entry_bits) other_bits (poke (seal_at s.log) seal_mark ∷ [])
          (omega (
            arith,
            h,
            length-append (into in_log entry_bits) (into in_log seal_bits),
            length-map entry_bits (store_in in_log),
            length-map seal_bits (store_in in_log),
            length-append other_bits (poke (seal_at s.log) seal_mark ∷ []),
          ))
          ∙ take_run (f - length entry_bits) (seal_at s.log + 1) (seal_bytes needed)

  -- ---- cut anywhere

  abbrev first_part : List Store
  first_part = logging old ++ sealing s.log needed

  abbrev second_part : List Store
  second_part = putting new ++ (clearing s.log ∷ [])

  -- the stores of the new bytes go where the old ones are put back
  torn_new : (f : ℕ) → Off (putting old) sealed (puts (take f (putting new)) sealed)
  torn_new f =
      off_puts (putting old) (take f (putting new)) sealed sealed
      (λ x m. subst (λ (l : List Place). Mem (place_of x) l)
      (same_places (changes s.table image) k image (exchange s.order k) s.table s.order)
      (place_mem (putting new) x (taken f (putting new) x m)))
      (record { long = λ b. refl; same = λ p. inl refl })

  pub cut_early : (f : ℕ) → f < length (swap_stores s image k) → Undone (swap_cut f s image k)
  unfolding swap_stores
  cut_early f h =
      either_side f (length first_part)
      (λ l. subst Undone (sym (ap (λ (x : List Store). puts x s) (take-append-le f first_part second_part (omega arith)) ∙ early_is f)) (quiet (early f l)))
      (λ l. subst Undone (sym (late l)) (torn (torn_new (f - length first_part))))
    where
      late : length first_part ≤ f → puts (take f (first_part ++ second_part)) s ≡ puts (take (f - length first_part) (putting new)) sealed
      late l =
          puts_both f first_part second_part s
          ∙ ap₂ (λ (x : List Store) (a : State). puts x a)
          (take-append-le (f - length first_part) (putting new) (clearing s.log ∷ [])
          (omega (arith, h, length-append first_part second_part, length-append (putting new) (clearing s.log ∷ []))))
          (ap (λ (x : List Store). puts x s) (take_all f first_part l) ∙ sealed_is)

  makes : puts (first_part ++ second_part) s ≡ puts (clearing s.log ∷ []) made
  makes =
      puts_append first_part second_part s
      ∙ ap (puts second_part) sealed_is
      ∙ puts_append (putting new) (clearing s.log ∷ []) sealed
      ∙ ap (puts (clearing s.log ∷ []))
      (mended (putting new) made sealed new_right (only_changes s.table image s.order (sealed_log s.log old) k ready.long ready.whole))

  -- what a swap that isn't cut leaves
  pub uncut : puts (swap_stores s image k) s ≡ state image (exchange s.order k) (set (sealed_log s.log old) (seal_at s.log) 0)
  unfolding swap_stores puts put
  uncut = makes

  pub cut_late : (f : ℕ) → length (swap_stores s image k) ≤ f → Quiet image (exchange s.order k) (swap_cut f s image k)
  unfolding swap_stores
  cut_late f h =
      subst (Quiet image (exchange s.order k))
      (sym (ap (λ (x : List Store). puts x s) (take_all f (first_part ++ second_part) h) ∙ makes)) (quiet_clear made refl)

  -- so the log is empty again
  pub swap_quiet : Quiet image (exchange s.order k) (puts (swap_stores s image k) s)
  unfolding swap_stores
  swap_quiet = subst (Quiet image (exchange s.order k)) (sym makes) (quiet_clear made refl)

  -- ---- a recovery, cut anywhere or whole

  back : (a : State) → Off (putting old) sealed a → puts (putting old ++ (clearing s.log ∷ [])) a ≡ puts (clearing s.log ∷ []) sealed
  back a o =
      puts_append (putting old) (clearing s.log ∷ []) a
      ∙ ap (puts (clearing s.log ∷ [])) (mended (putting old) sealed a old_right o)

  pub recovery_cut_lem : (f : ℕ) (a : State) → Undone a → Undone (recovery_cut f a)
  recovery_cut_lem f a (quiet q) = quiet (quiet_cut f s.table s.order a q)
  recovery_cut_lem f a (torn o) =
      subst (λ (x : List Store). Undone (puts (take f x) a)) (sym (ap recovery_stores (torn_log a o) ∙ log_back))
      (either_side f (length (putting old ++ (clearing s.log ∷ [])))
      (λ l. torn (subst (λ (x : List Store). Off (putting old) sealed (puts x a))
      (sym (take-append-le f (putting old) (clearing s.log ∷ []) (omega (arith, length-append (putting old) (clearing s.log ∷ [])))))
      (off_puts (putting old) (take f (putting old)) sealed a (λ x m. place_mem (putting old) x (taken f (putting old) x m)) o)))
      (λ l. quiet (subst (Quiet s.table s.order)
      (sym (ap (λ (x : List Store). puts x a) (take_all f (putting old ++ (clearing s.log ∷ [])) l) ∙ back a o)) (quiet_clear sealed refl))))

  recovery_whole : (a : State) → Undone a → Quiet s.table s.order (recovered a)
  recovery_whole a (quiet q) = quiet_whole s.table s.order a q
  recovery_whole a (torn o) =
      subst (λ (x : List Store). Quiet s.table s.order (puts x a)) (sym (ap recovery_stores (torn_log a o) ∙ log_back))
      (subst (Quiet s.table s.order) (sym (back a o)) (quiet_clear sealed refl))

  pub recoveries_undone : (fs : List ℕ) (a : State) → Undone a → Undone (recoveries fs a)
  unfolding recoveries
  recoveries_undone [] a u = u
  recoveries_undone (f ∷ fs) a u = recoveries_undone fs (recovery_cut f a) (recovery_cut_lem f a u)

  -- a swap cut after f stores, any number of recoveries cut after any number of stores each, and a recovery that isn't cut
  pub before_the_swap : (f : ℕ) (fs : List ℕ) → f < length (swap_stores s image k)
      → Quiet s.table s.order (recovered (recoveries fs (swap_cut f s image k)))
  before_the_swap f fs h = recovery_whole _ (recoveries_undone fs _ (cut_early f h))

  pub after_the_swap : (f : ℕ) (fs : List ℕ) → length (swap_stores s image k) ≤ f
      → Quiet image (exchange s.order k) (recovered (recoveries fs (swap_cut f s image k)))
  after_the_swap f fs h = quiet_whole image (exchange s.order k) _ (recoveries_quiet fs image (exchange s.order k) _ (cut_late f h))
