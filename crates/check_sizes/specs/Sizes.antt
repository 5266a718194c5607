-- Check 1: there are 1 variable or more and no more than an order may have, whole records and whole roots, and no more than a relay stores.
-- docs/RULES.md, 2.2.
use Rattle.std.specs.Prelude.{ℕ, ◌*◌, ◌%◌, ◌≤◌, ◌<◌, Bool, false, not, ◌||◌, List, ◌⊎◌, ◌≡◌, eqb, ltb, length}
use Rattle.std.proofs.Common.{inl, inr, ⊎_elim, lt_of_not-le, arith}
use Rattle.lists.specs.Says.{Says, says, says_eqb, says_leb, refutes, denies, decided, stable}
use Rattle.diagrams.specs.Layout.{record_size, root_size, most_records, most_roots, root_count}
use Rattle.orders.specs.Permutation.{ceiling}

abbrev bad_order_length : List ℕ → Bool
bad_order_length o = eqb (length o) 0 || ltb ceiling (length o)

abbrev bad_table_length : List ℕ → Bool
bad_table_length t = not (eqb (length t % record_size) 0) || ltb (record_size * most_records) (length t)

abbrev bad_roots_length : List ℕ → Bool
bad_roots_length r = not (eqb (length r % root_size) 0) || ltb most_roots (root_count r)

unfoldable pub bad_sizes : List ℕ → List ℕ → List ℕ → Bool
bad_sizes t r o = bad_order_length o || bad_table_length t || bad_roots_length r

-- ---- what it says

pub record Sizes (t r o : List ℕ) : Type 0 where
  pub some_variables : 1 ≤ length o
  pub few_variables : length o ≤ ceiling
  pub whole_records : length t % record_size ≡ 0
  pub few_records : length t ≤ record_size * most_records
  pub whole_roots : length r % root_size ≡ 0
  pub few_roots : root_count r ≤ most_roots

-- what of it a swap asks for
pub record TableSizes (t r : List ℕ) : Type 0 where
  pub few_records : length t ≤ record_size * most_records
  pub whole_records : length t % record_size ≡ 0
  pub few_roots : root_count r ≤ most_roots

pub sized : {t r o : List ℕ} → Sizes t r o → TableSizes t r
sized s = record { few_records = s.few_records; whole_records = s.whole_records; few_roots = s.few_roots }

sizes_says : (t r o : List ℕ) → Says (bad_sizes t r o)
    ((((length o ≡ 0) ⊎ (ceiling < length o)) ⊎ ((length t % record_size ≡ 0 → ⊥) ⊎ (record_size * most_records < length t)))
    ⊎ ((length r % root_size ≡ 0 → ⊥) ⊎ (most_roots < root_count r)))
unfolding bad_sizes
sizes_says t r o = search says depth 12

not_less : {m n : ℕ} → (m < n → ⊥) → n ≤ m
not_less {m} {n} f = ⊎_elim (λ h. h) (λ h. absurd (f (lt_of_not-le h))) (decided (says_leb n m))

pub sizes_if : (t r o : List ℕ) → bad_sizes t r o ≡ false → Sizes t r o
sizes_if t r o e =
    let n = refutes (sizes_says t r o) e in
    record {
      some_variables = lt_of_not-le (λ h. n (inl (inl (inl (omega arith)))));
      few_variables = not_less (λ h. n (inl (inl (inr h))));
      whole_records = stable (says_eqb _ _) (λ h. n (inl (inr (inl h))));
      few_records = not_less (λ h. n (inl (inr (inr h))));
      whole_roots = stable (says_eqb _ _) (λ h. n (inr (inl h)));
      few_roots = not_less (λ h. n (inr (inr h)));
    }

pub sizes_then : (t r o : List ℕ) → Sizes t r o → bad_sizes t r o ≡ false
sizes_then t r o s =
    denies (sizes_says t r o)
    (⊎_elim
    (⊎_elim
    (⊎_elim (λ h. omega (arith, s.some_variables)) (λ h. omega (arith, s.few_variables)))
    (⊎_elim (λ h. h s.whole_records) (λ h. omega (arith, s.few_records))))
    (⊎_elim (λ h. h s.whole_roots) (λ h. omega (arith, s.few_roots))))
