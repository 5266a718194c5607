-- A log with entries and the seal set, read again: it holds what was stored.
use Rattle.std.specs.Prelude.{ℕ, zero, suc, ◌+◌, ◌-◌, ◌*◌, ◌≤◌, ◌<◌, true, ◌≡◌, refl, length, set}
use mathlib.Core.List.{List, [], ◌∷◌, ◌++◌}
use Rattle.std.proofs.Common.{inl, inr, ap₂, sym, ◌∙◌, zero-add, arith, length-append, get_or-set_same, ext_get_or, eq-eqb}
use Rattle.std.proofs.Math.Path.{ap}
use Rattle.std.proofs.Math.Nat.{mod-add-div}
use Rattle.std.proofs.Math.ListN.{get_or, get_or-append}
use Rattle.std.proofs.Math.Seq.{get_or-set_other}
use Rattle.lists.specs.Mem.{Mem, at_mem}
use Rattle.lists.specs.Each.{each}
use Rattle.lists.specs.Tabulate.{tabulate, length_tabulate, get_d_tabulate}
use Rattle.diagrams.specs.Layout.{pair_at}
use Rattle.undo.specs.Stores.{in_log, State, store, Poke, poke, pokes, run, into, held, puts, puts_into, puts_append, pokes_append}
use Rattle.undo.specs.Rows.{length_pokes, poked_out, poked_in, parts_length, part_at_lem}
use Rattle.undo.specs.Log.{seal_mark, entry_size, Entry, eight, packed, entry_at, seal_at, is_sealed, seal_count, seal_bytes, logged}
use Rattle.undo.specs.Log.{logging, sealing, putting, clearing, recovery_stores}

-- an entry that sixteen bytes can hold
pub record Sound (e : Entry) : Type 0 where
  pub whole : length e.bytes ≡ 8

-- the stores of the seal
abbrev pub seal_pokes : List ℕ → ℕ → List Poke
seal_pokes log n = run (seal_at log + 1) (seal_bytes n) ++ (poke (seal_at log) seal_mark ∷ [])

unfoldable pub sealed_log : List ℕ → List Entry → List ℕ
sealed_log log es = pokes (seal_pokes log (length es)) (pokes (run 0 (each packed es)) log)

-- logging and sealing make it so
pub sealed_state : (s : State) (es : List Entry) → puts (logging es ++ sealing s.log (length es)) s ≡ held in_log (sealed_log s.log es) s
unfolding logging sealing sealed_log
sealed_state s es =
    puts_append (into in_log (run 0 (each packed es))) (into in_log (seal_pokes s.log (length es))) s
    ∙ ap (puts (into in_log (seal_pokes s.log (length es)))) (puts_into in_log (run 0 (each packed es)) s)
    ∙ puts_into in_log (seal_pokes s.log (length es)) (held in_log (pokes (run 0 (each packed es)) s.log) s)

-- ---- eight bytes

pub eight_at : (l : List ℕ) (at j : ℕ) → j < 8 → get_or (eight l at) j 0 ≡ get_or l (at + j) 0
eight_at l at zero h = ap (λ i. get_or l i 0) (none at)
  where
    none : (a : ℕ) → a ≡ a + 0
    none a = omega arith
eight_at l at (suc zero) h = refl
eight_at l at (suc (suc zero)) h = refl
eight_at l at (suc (suc (suc zero))) h = refl
eight_at l at (suc (suc (suc (suc zero)))) h = refl
eight_at l at (suc (suc (suc (suc (suc zero))))) h = refl
eight_at l at (suc (suc (suc (suc (suc (suc zero)))))) h = refl
eight_at l at (suc (suc (suc (suc (suc (suc (suc zero))))))) h = refl
eight_at l at (suc (suc (suc (suc (suc (suc (suc (suc j)))))))) h = absurd (omega arith)

eight_back : (l b : List ℕ) (at : ℕ) → length b ≡ 8 → ((j : ℕ) → j < 8 → get_or l (at + j) 0 ≡ get_or b j 0) → eight l at ≡ b
eight_back l b at e f = ext_get_or 0 (eight l at) b (sym e) (λ j h. eight_at l at j h ∙ f j h)

-- ---- the log that stands there

module _ (log : List ℕ) (es : List Entry) (room : entry_size * length es + entry_size ≤ length log) (sound : (e : Entry) → Mem e es → Sound e) where
  whole : (e : Entry) → Mem e es → length (packed e) ≡ entry_size
  whole e m = omega (arith, length-append e.bytes (0 ∷ 0 ∷ 0 ∷ 0 ∷ []), (sound e m).whole)

  entries_long : length (each packed es) ≡ entry_size * length es
  entries_long = parts_length packed entry_size es whole

  pub length_sealed : length (sealed_log log es) ≡ length log
  unfolding sealed_log
  length_sealed = length_pokes (seal_pokes log (length es)) _ ∙ length_pokes (run 0 (each packed es)) log

  -- before the seal's first byte is set
  half : List ℕ
  half = pokes (run (seal_at log + 1) (seal_bytes (length es))) (pokes (run 0 (each packed es)) log)

  half_sealed : sealed_log log es ≡ set half (seal_at log) seal_mark
  unfolding sealed_log half pokes
  half_sealed = pokes_append (run (seal_at log + 1) (seal_bytes (length es))) (poke (seal_at log) seal_mark ∷ []) (pokes (run 0 (each packed es)) log)

  half_long : length half ≡ length log
  unfolding half
  half_long = length_pokes (run (seal_at log + 1) (seal_bytes (length es))) _ ∙ length_pokes (run 0 (each packed es)) log

  pub entry_byte : (k j : ℕ) (d : Entry) → k < length es → j < entry_size
      → get_or (sealed_log log es) (entry_size * k + j) 0 ≡ get_or (packed (get_or es k d)) j 0
  unfolding half
  entry_byte k j d h l =
      ap (λ (b : List ℕ). get_or b (entry_size * k + j) 0) half_sealed
      ∙ get_or-set_other half (seal_at log) (entry_size * k + j) seal_mark 0 (λ e. omega arith)
      ∙ poked_out (seal_bytes (length es)) (seal_at log + 1) _ (entry_size * k + j) (inl (omega arith))
      ∙ ap (λ i. get_or (pokes (run 0 (each packed es)) log) i 0) (sym (zero-add (entry_size * k + j)))
      ∙ poked_in (each packed es) 0 log (entry_size * k + j) (omega (arith, entries_long)) (omega (arith, entries_long))
      ∙ part_at_lem packed entry_size es k j d whole h l

  -- behind the entries the log keeps its old bytes
  pub beyond : (i : ℕ) → entry_size * length es ≤ i → i < seal_at log → get_or (sealed_log log es) i 0 ≡ get_or log i 0
  unfolding half
  beyond i h l =
      ap (λ (b : List ℕ). get_or b i 0) half_sealed
      ∙ get_or-set_other half (seal_at log) i seal_mark 0 (λ e. omega arith)
      ∙ poked_out (seal_bytes (length es)) (seal_at log + 1) _ i (inl (omega arith))
      ∙ poked_out (each packed es) 0 log i (inr (omega (arith, entries_long)))

  pub seal_first : get_or (sealed_log log es) (seal_at log) 0 ≡ seal_mark
  seal_first = ap (λ (b : List ℕ). get_or b (seal_at log) 0) half_sealed ∙ get_or-set_same half (seal_at log) seal_mark 0 (rw half_long (omega arith))

  pub seal_byte : (j : ℕ) → j < 15 → get_or (sealed_log log es) (seal_at log + 1 + j) 0 ≡ get_or (seal_bytes (length es)) j 0
  unfolding half
  seal_byte j l =
      ap (λ (b : List ℕ). get_or b (seal_at log + 1 + j) 0) half_sealed
      ∙ get_or-set_other half (seal_at log) (seal_at log + 1 + j) seal_mark 0 (λ e. omega arith)
      ∙ poked_in (seal_bytes (length es)) (seal_at log + 1) (pokes (run 0 (each packed es)) log) j
      (rw (length_pokes (run 0 (each packed es)) log) (omega arith)) l

  -- ---- what a recovery reads

  pub seal_set : is_sealed (sealed_log log es) ≡ true
  seal_set = eq-eqb _ seal_mark (ap (λ n. get_or (sealed_log log es) (n - entry_size) 0) length_sealed ∙ seal_first)

  pub seal_counts : seal_count (sealed_log log es) ≡ length es
  seal_counts =
      ap (λ n. pair_at (sealed_log log es) (n - entry_size + 2)) length_sealed
      ∙ ap₂ (λ a b. get_or (sealed_log log es) a 0 + 256 * get_or (sealed_log log es) b 0) (next (seal_at log)) (after (seal_at log))
      ∙ ap₂ (λ a b. a + 256 * b) (seal_byte 1 (omega arith)) (seal_byte 2 (omega arith))
      ∙ mod-add-div (length es) 256
    where
      next : (q : ℕ) → q + 2 ≡ q + 1 + 1
      next q = omega arith

      after : (q : ℕ) → q + 2 + 1 ≡ q + 1 + 2
      after q = omega arith

  pub entry_back : (k : ℕ) (d : Entry) → k < length es → entry_at (sealed_log log es) k ≡ get_or es k d
  unfolding entry_at
  entry_back k d h =
      λ i. record {
        kind = entry_byte k 1 d h (omega arith) i;
        number = number i;
        bytes = eight_back (sealed_log log es) (get_or es k d).bytes (entry_size * k + 4) good.whole byte i;
      }
    where
      good : Sound (get_or es k d)
      good = sound (get_or es k d) (at_mem es k d h)

      third : (k : ℕ) → entry_size * k + 2 + 1 ≡ entry_size * k + 3
      third k = omega arith

      number : pair_at (sealed_log log es) (entry_size * k + 2) ≡ (get_or es k d).number
      number =
          ap (λ a. get_or (sealed_log log es) (entry_size * k + 2) 0 + 256 * get_or (sealed_log log es) a 0) (third k)
          ∙ ap₂ (λ a b. a + 256 * b) (entry_byte k 2 d h (omega arith)) (entry_byte k 3 d h (omega arith))
          ∙ mod-add-div (get_or es k d).number 256

      four : (j : ℕ) → entry_size * k + 4 + j ≡ entry_size * k + suc (suc (suc (suc j)))
      four j = omega arith

      byte : (j : ℕ) → j < 8 → get_or (sealed_log log es) (entry_size * k + 4 + j) 0 ≡ get_or (get_or es k d).bytes j 0
      byte j l =
          ap (λ a. get_or (sealed_log log es) a 0) (four j)
          ∙ entry_byte k (suc (suc (suc (suc j)))) d h (omega arith)
          ∙ get_or-append (get_or es k d).bytes (0 ∷ 0 ∷ 0 ∷ 0 ∷ []) 0 j (rw good.whole l)

  pub entries_back : Entry → logged (sealed_log log es) ≡ es
  entries_back d =
      ap (λ n. tabulate n (entry_at (sealed_log log es))) seal_counts
      ∙ ext_get_or d (tabulate (length es) (entry_at (sealed_log log es))) es (length_tabulate (length es) (entry_at (sealed_log log es)))
      (λ k h. get_d_tabulate (length es) (entry_at (sealed_log log es)) k d (few_of h) ∙ entry_back k d (few_of h))
    where
      few_of : {k : ℕ} → k < length (tabulate (length es) (entry_at (sealed_log log es))) → k < length es
      few_of h = rw (length_tabulate (length es) (entry_at (sealed_log log es))) at h

  -- so a recovery puts back the entries, and clears the seal
  pub recovery_back : Entry → recovery_stores (sealed_log log es) ≡ putting es ++ (clearing log ∷ [])
  unfolding recovery_stores
  recovery_back d =
      rw seal_set (ap₂ (λ (l : List Entry) (n : ℕ). putting l ++ (store in_log (n - entry_size) 0 ∷ [])) (entries_back d) length_sealed)
