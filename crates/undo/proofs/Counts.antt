-- Laws of what specs/Counts.antt defines.
use Rattle.std.specs.Prelude.{ℕ, zero, suc, ◌+◌, ◌*◌, ◌≤◌, ◌<◌, Bool, true, false, cond, List, [], ◌∷◌, ◌++◌, ◌≡◌, refl, eqb, length}
use Rattle.std.proofs.Common.{append-nil, ap, ◌∙◌, arith, length-append}
use Rattle.std.proofs.lemmas.List.{length-map}
use Rattle.lists.specs.Each.{each, each_append}
use Rattle.lists.specs.Tabulate.{tabulate, tabulate_snoc}
use Rattle.diagrams.specs.Layout.{record_size}
use Rattle.orders.specs.Exchange.{exchange}
use Rattle.undo.specs.Stores.{in_log, State, run, store_in, length_run}
use Rattle.undo.specs.Rows.{parts_length}
use Rattle.undo.specs.Log.{entry_size, most_log_records, packed, eight, of_record, kind_at, number_at, entry_at, is_sealed, seal_count, logged}
use Rattle.undo.specs.Log.{changes, entries_of, entries_needed, entries_held, old_entries, new_entries}
use Rattle.undo.specs.Log.{entry_stores, logging, sealing, putting, clearing, swap_stores, recovery_stores}
use Rattle.undo.specs.Changes.{entry_sound, entries_count}
use Rattle.undo.specs.Counts.{enough, stores_of}

putting_count : (numbers : List ℕ) (k : ℕ) (t o : List ℕ) → length (putting (entries_of numbers k t o)) ≡ record_size * length numbers + 2
unfolding putting entries_of each entry_stores run
putting_count [] k t o = refl
putting_count (i ∷ numbers) k t o = omega (arith, putting_count numbers k t o)

logging_count : (numbers : List ℕ) (k : ℕ) (t o : List ℕ) → length (logging (entries_of numbers k t o)) ≡ entry_size * (length numbers + 1)
unfolding logging
logging_count numbers k t o =
    length-map (run 0 (each packed (entries_of numbers k t o))) (store_in in_log)
    ∙ length_run 0 (each packed (entries_of numbers k t o))
    ∙ parts_length packed entry_size (entries_of numbers k t o)
    (λ e m. omega (arith, length-append e.bytes (0 ∷ 0 ∷ 0 ∷ 0 ∷ []), (entry_sound numbers k t o e m).whole))
    ∙ ap (λ n. entry_size * n) (entries_count numbers k t o)

sealing_count : (log : List ℕ) (n : ℕ) → length (sealing log n) ≡ entry_size
unfolding sealing run
sealing_count log n = refl

pub stores_count : (s : State) (u : List ℕ) (k : ℕ) → length (swap_stores s u k) ≡ 24 * entries_needed s.table u + 11
unfolding swap_stores entries_needed
stores_count s u k =
    omega (
      arith,
      length-append (logging (old_entries s u k) ++ sealing s.log (length (changes s.table u) + 1))
          (putting (new_entries s u k) ++ (clearing s.log ∷ [])),
      length-append (logging (old_entries s u k)) (sealing s.log (length (changes s.table u) + 1)),
      length-append (putting (new_entries s u k)) (clearing s.log ∷ []),
      logging_count (changes s.table u) k s.table s.order,
      sealing_count s.log (length (changes s.table u) + 1),
      putting_count (changes s.table u) k u (exchange s.order k),
    )

pub swap_few : (s : State) (u : List ℕ) (k : ℕ) → entries_needed s.table u ≤ entries_held s.log
    → length s.log ≤ entry_size * most_log_records → length (swap_stores s u k) < enough
swap_few s u k h l = omega (arith, stores_count s u k)

entry_few : (log : List ℕ) (k : ℕ) → length (entry_stores (entry_at log k)) ≤ record_size
unfolding entry_stores entry_at run
entry_few log k = go (eqb (kind_at log k) of_record)
  where
    go : (b : Bool) → length (stores_of b (number_at log k) (eight log (entry_size * k + 4))) ≤ record_size
    go true = omega arith
    go false = omega arith

pub putting_few : (log : List ℕ) (n : ℕ) → length (putting (tabulate n (entry_at log))) ≤ record_size * n
unfolding putting each tabulate
putting_few log zero = omega arith
putting_few log (suc n) =
    let all = ap (each entry_stores) (tabulate_snoc n (entry_at log)) ∙ each_append entry_stores (tabulate n (entry_at log)) (entry_at log n ∷ []) in
    let one = append-nil (entry_stores (entry_at log n)) in
    let sum = length-append (each entry_stores (tabulate n (entry_at log))) (entry_stores (entry_at log n) ++ []) in
    omega (arith, putting_few log n, entry_few log n, ap length all, sum, ap length one)

pub recovery_few : (log : List ℕ) → (is_sealed log ≡ true → seal_count log ≤ most_log_records) → length (recovery_stores log) ≤ enough
unfolding recovery_stores
recovery_few log h = go (is_sealed log) refl
  where
    go : (b : Bool) → is_sealed log ≡ b → length (cond b (putting (logged log) ++ (clearing log ∷ [])) []) ≤ enough
    go true e = omega (arith, h e, putting_few log (seal_count log), length-append (putting (logged log)) (clearing log ∷ []))
    go false e = omega arith
