-- A fitting swap of a stored table, over its bytes: it passes every check again, under the exchanged order, and every root keeps its value.
use Rattle.std.specs.Prelude.{ℕ, ◌+◌, ◌*◌, ◌%◌, ◌<◌, Bool, true, false, not, List, ◌≡◌, get_or, drop, Ok}
use Rattle.std.proofs.Common.{arith, inl, inr, ◌∙◌}
use Rattle.std.proofs.Math.Path.{refl, ap, sym}
use Rattle.std.proofs.Math.ListN.{length, take, get_or-eq_default}
use Rattle.lists.specs.Says.{Says, either_side}
use Rattle.lists.specs.Total.{count_agrees}
use Rattle.orders.specs.Permutation.{Permutation, level_of, inside_level}
use Rattle.orders.specs.Exchange.{exchange, length_exchange, exchange_permutation}
use Rattle.diagrams.specs.Layout.{record_size, most_records, records, root_count, variable_at, low_at, high_at, is_free, is_used, root_at}
use Rattle.diagrams.specs.Node.{Node, free, node, Constant, at, ref, two_more, look}
use Rattle.diagrams.specs.Decode.{Used, decode, eight, WellLaid, encode_decode}
use Rattle.diagrams.specs.Store.{length_encode}
use Rattle.diagrams.specs.Encode.{Small, AllSmall, decode_encode, encode_laid, take_record}
use Rattle.diagrams.specs.Lookup.{length_decode, roots_of, lookup, node_of, length_roots, root_is}
use Rattle.diagrams.specs.Bryant.{Among, Vertex}
use Rattle.diagrams.specs.Levels.{free_node}
use Rattle.diagrams.specs.Diagram.{Named, Diagram}
use Rattle.diagrams.proofs.Reduced.{diagram_of, look_ends}
use Rattle.diagrams.specs.Value.{value, Value}
use Rattle.checks.specs.Check.{used, check_of}
use Rattle.check_names.specs.Names.{NamedByRoot, NamedByRecord}
use Rattle.checks.specs.Usable.{Usable}
use Rattle.checks.proofs.Usable.{by_root_lem, root_by, by_record_lem, record_by}
use Rattle.checks.proofs.Theorems.{accepts}
use Rattle.diagrams.specs.Edition.{plain}
use Rattle.swap_rules.specs.Record.{is_used_node, is_free_node, UsedOf, Behind, behind}
use Rattle.swap_rules.specs.Swap.{x_at, y_at, crosses, dies, filled, used_count, used_afterwards, swapped}
use Rattle.swap_records.specs.Kinds as kinds
use Rattle.swap_rules.proofs.Room as room
use Rattle.swap_rules.specs.Stored.{SwapFits}
use Rattle.swap_rules.proofs.Stored.{plain_written, length_swapped}
use Rattle.swap_rules.specs.Theorem.{Cofactors}
use Rattle.swap_rules.proofs.Theorem.{swap_diagram, swap_bryant, swap_root, swap_reads, swap_else, swap_count, cofactors, freed_exactly}
use Rattle.swap_preparing.specs.Table.{needed_in, free_in, dying_in, fits_in, table_after}

-- ---- as many records as before

module _ (t r : List ℕ) (x y : ℕ) where
  bytes_of_lem : length (table_after t r x y) ≡ record_size * records t
  unfolding table_after
  bytes_of_lem =
      length_encode (swapped plain (decode t) x y (roots_of r))
      ∙ ap (λ n. record_size * n) (length_swapped plain (decode t) x y (roots_of r) ∙ length_decode t)

  records_after : records (table_after t r x y) ≡ records t
  records_after = omega (arith, bytes_of_lem)

  pub length_after : length t % record_size ≡ 0 → length (table_after t r x y) ≡ length t
  length_after whole = omega (arith, bytes_of_lem)

-- ---- the used records, in the bytes and in the records

used_is : (t : List ℕ) → used t ≡ used_count (at (decode t)) (records t)
unfolding used_count
used_is t = count_agrees (λ i. is_used_node (at (decode t) i)) (is_used t) (records t) (λ i b. ap not (sym (kinds.free_is t i b)))

-- the two readings of room, over the bytes: there are not slots enough exactly where more records would be used afterwards than the table has
module _ (t r : List ℕ) (x y : ℕ) where
  pub outnumbers : free_in t + dying_in t r x y < needed_in t x y → records t + dying_in t r x y < used t + needed_in t x y
  unfolding used_afterwards
  outnumbers h = rw (used_is t) (omega (arith, room.outnumbers plain (at (decode t)) (records t) x y (roots_of r) h))

  pub lacks_slots : records t + dying_in t r x y < used t + needed_in t x y → free_in t + dying_in t r x y < needed_in t x y
  unfolding used_afterwards
  lacks_slots h =
      let l : records t + dying_in t r x y < used_count (at (decode t)) (records t) + needed_in t x y = rw (used_is t) at h in
      either_side (free_in t + dying_in t r x y) (needed_in t x y)
      (λ s. s)
      (λ s. absurd (omega (arith, room.inside_table plain (at (decode t)) (records t) x y (roots_of r) s)))

-- ---- a fitting swap of a table that is accepted

module _ (t r o : List ℕ) (k : ℕ) (usable : Usable t r o) (level : k + 1 < length o) (fit : fits_in t r (x_at o k) (y_at o k) ≡ true) where
  abbrev x : ℕ
  x = x_at o k

  abbrev y : ℕ
  y = y_at o k

  -- the records afterwards, and their bytes
  abbrev S : List Node
  S = swapped plain (decode t) x y (roots_of r)

  abbrev t' : List ℕ
  t' = table_after t r x y

  swap_fits : SwapFits plain (decode t) (roots_of r) o k
  swap_fits = record { written = plain_written (decode t); order = usable.order; level = level; fit = rw (length_decode t) fit }

  before : Diagram Constant (lookup t) (Among (roots_of r)) (level_of o) (length o)
  before = diagram_of (look_ends (at (decode t))) usable.bryant

  again : Diagram Constant (look (at S)) (Among (roots_of r)) (level_of (exchange o k)) (length (exchange o k))
  again = swap_diagram swap_fits before

  exchanged : Permutation (exchange o k)
  exchanged = exchange_permutation o k usable.order level

  -- ---- every record fits its bytes

  below_most : (i : ℕ) {v l h : ℕ} → at S i ≡ node v l h → i < most_records
  below_most i e =
      either_side i (length S)
      (λ b. omega (arith, length_swapped plain (decode t) x y (roots_of r), length_decode t, usable.sizes.few_records))
      (λ b. free_node (get_or-eq_default S free b) e)

  reference_small : (c : ℕ) → Vertex Constant (look (at S)) c → c < 65536
  reference_small c (inl b) = omega arith
  reference_small c (inr u) =
      let m : Behind (at S) c (node u.variable u.low u.high) = behind (at S) c u.is in
      omega (arith, m.is, below_most m.number m.holds)

  variable_small : (q : ℕ) {v l h : ℕ} → look (at S) q ≡ node v l h → v < 255
  variable_small q {v} e = omega (arith, inside_level (exchange o k) v exchanged (again.graph.indexed q e), length_exchange o k, usable.sizes.few_variables)

  swapped_small : AllSmall S
  unfolding look
  swapped_small i b = go (at S i) refl
    where
      go : (m : Node) → at S i ≡ m → Small m
      go free e = tt
      go (node v l h) e =
          (variable_small (ref i) e, reference_small l (again.graph.closed (ref i) e false), reference_small h (again.graph.closed (ref i) e true))

  -- ---- the table afterwards

  decode_after : decode t' ≡ S
  unfolding table_after
  decode_after = decode_encode S swapped_small

  laid_after : WellLaid t'
  unfolding table_after
  laid_after = encode_laid S swapped_small

  -- a fitting swap of an accepted table gives an accepted table under the exchanged order
  pub swap_usable : Usable t' r (exchange o k)
  swap_usable = record {
    sizes = record {
      some_variables = rw (length_exchange o k) usable.sizes.some_variables;
      few_variables = rw (length_exchange o k) usable.sizes.few_variables;
      whole_records = rw same usable.sizes.whole_records;
      few_records = rw same usable.sizes.few_records;
      whole_roots = usable.sizes.whole_roots;
      few_roots = usable.sizes.few_roots;
    };
    order = exchanged;
    laid = laid_after;
    bryant = rw decode_after (swap_bryant swap_fits usable.bryant);
  }
    where
      same : length t' ≡ length t
      same = length_after t r x y usable.sizes.whole_records

  pub swap_accepted : check_of t' r (exchange o k) ≡ Ok (used t')
  swap_accepted = accepts t' r (exchange o k) swap_usable

  -- every root keeps its reference, and its value for every combination
  pub swap_root_value : (inputs : ℕ → Bool) (position : ℕ) → position < root_count r
      → value (lookup t') inputs (length o) (root_at r position) ≡ value (lookup t) inputs (length o) (root_at r position)
  swap_root_value inputs position b =
      let e : value (look (at S)) inputs (length o) (get_or (roots_of r) position 0) ≡ value (lookup t) inputs (length o) (get_or (roots_of r) position 0) =
      swap_root swap_fits before inputs position (rw (length_roots r) b) in
      rw decode_after (rw (root_is r position b) at e)

  -- the same, of what a root reads as
  pub swap_root_reads : (inputs : ℕ → Bool) (position : ℕ) → position < root_count r → (v : Bool)
      → Value (lookup t) inputs (root_at r position) v → Value (lookup t') inputs (root_at r position) v
  swap_root_reads inputs position b =
      let e : (v : Bool) → Value (lookup t) inputs (get_or (roots_of r) position 0) v → Value (look (at S)) inputs (get_or (roots_of r) position 0) v =
      swap_reads swap_fits before inputs position (rw (length_roots r) b) in
      rw decode_after (rw (root_is r position b) at e)

  -- the function of a crossing record, and those of its new children
  pub swap_cofactors : (q : ℕ) → crosses (lookup t) x y q ≡ true → Cofactors (lookup t) (lookup t') (length o) x y q
  swap_cofactors q c = rw decode_after (cofactors swap_fits before q c)

  -- 4.5: a y record from before is free afterwards exactly where no root names it, and no used record of the table afterwards
  pub swap_frees_exactly : (i : ℕ) → i < records t → variable_at t i ≡ y
      → Says (is_free t' i) ((NamedByRoot r (i + 2) → ⊥) × (NamedByRecord t' (i + 2) → ⊥))
  unfolding look
  swap_frees_exactly i b is_y = record {
    yes = λ f.
        let p = freed.yes (sym free_is ∙ f) in
        (λ n. p.0 (rw two_more at (by_root_lem r (i + 2) n)), λ n. p.1 (rw (decode_after, two_more) at (by_record_lem t' (i + 2) n)));
    no = λ p. free_is ∙ freed.no (λ n. p.0 (root_by r (i + 2) (rw two_more n)), λ n. p.1 (record_by t' (i + 2) (rw (decode_after, two_more) n)));
  }
    where
      used_y : Used t i
      used_y e = omega (arith, usable.order.in_range (k + 1) level, usable.sizes.few_variables)

      was_y : UsedOf y (lookup t (ref i))
      was_y = record { low = low_at t i; high = high_at t i; is = node_of t i b used_y ∙ ap (λ v. node v (low_at t i) (high_at t i)) is_y }

      freed : Says (is_free_node (look (at S) (ref i))) ((Among (roots_of r) (ref i) → ⊥) × (Named (look (at S)) (ref i) → ⊥))
      freed = freed_exactly swap_fits before (ref i) was_y

      free_is : is_free t' i ≡ is_free_node (at S i)
      free_is = sym (kinds.free_is t' i (rw (records_after t r x y) b)) ∙ ap (λ s. is_free_node (at s i)) decode_after

  -- the used records are those before, plus new, less dying
  pub swap_used : used t' + dying_in t r x y ≡ used t + needed_in t x y
  swap_used =
      let e : used_count (at S) (records t) + dying_in t r x y ≡ used_count (at (decode t)) (records t) + needed_in t x y =
      rw (length_decode t) at (swap_count swap_fits) in
      let u : used t' ≡ used_count (at S) (records t) = used_is t' ∙ rw (decode_after, records_after t r x y) in
      rw (u, used_is t) e

  -- a record that does not cross, that no new one goes to and that does not die keeps its eight bytes
  pub kept_bytes : ((j : ℕ) → get_or t j 0 < 256) → (i : ℕ) → i < records t → crosses (lookup t) x y (ref i) ≡ false
      → filled plain (at (decode t)) (records t) x y (roots_of r) i ≡ false → dies plain (at (decode t)) (records t) x y (roots_of r) (ref i) ≡ false
      → take record_size (drop (record_size * i) t') ≡ take record_size (drop (record_size * i) t)
  unfolding table_after
  kept_bytes bytes i b c g d =
      let b₀ : i < length (decode t) = rw (length_decode t) b in
      let b₁ : i < length S = rw (length_swapped plain (decode t) x y (roots_of r)) b₀ in
      let e : at S i ≡ at (decode t) i = swap_else swap_fits i b₀ c (rw (length_decode t) g) (rw (length_decode t) d) in
      take_record S i b₁
      ∙ ap eight e
      ∙ sym (take_record (decode t) i b₀)
      ∙ ap (λ s. take record_size (drop (record_size * i) s)) (encode_decode t bytes usable.laid)
