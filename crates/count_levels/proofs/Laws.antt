-- One law for each need of a function, over plain variables: its premises are what is known there.
use Prim.Native.Nat.{ℕ, zero, suc, ◌+◌, ◌*◌, ◌/◌, ◌^◌, ◌≤◌, ◌<◌}
use mathlib.Core.Bool.{Bool, true, false}
use mathlib.Core.List.{List}
use mathlib.Core.Logic.{inl, inr, ⊎_elim}
use mathlib.Core.Path.{◌≡◌, refl, ap, sym, ◌∙◌}
use native.Mathlib.Decide.{ℕ_discrete}
use native.Mathlib.Nat.{le_trans, eq-or-lt_of_le}
use native.Mathlib.Omega.{arith}
use borrow.Author.Rules.{rules}
use lib.Ieee.{Float, binary64, add, div}
use lib.ListN.{length, get_or, set, length-set}
use lib.Pow.{pow_mono}
use lib.Seq.{get_or-set_same, get_or-set_other}
use Rattle.lists.specs.Says.{either_side}
use Rattle.diagrams.specs.Layout.{most_records, records, variable_at, low_at, high_at}
use Rattle.diagrams.specs.Node.{node, pick, ref, two_more, Constant}
use Rattle.diagrams.specs.Decode.{Used}
use Rattle.diagrams.specs.Lookup.{lookup, Stored, record_at, stored, node_of}
use Rattle.diagrams.specs.Bryant.{Vertex}
use Rattle.orders.specs.Permutation.{level_of, level_of_at, on_level}
use Rattle.count_shares.specs.Share.{most_counted, share, two}
use Rattle.count_shares.proofs.Exact.{share_none, share_all, share_mean}
use Rattle.count_levels.specs.Mean.{trips_by, Countable, trips_constant, trips_most, trips_mean}
use Rattle.count_levels.specs.Held.{outside, held, Whole, Right, RightFrom, Settled, CountableRecord, CountableVariable}
use Rattle.count_levels.specs.declared.Trips.{Trips}

-- ---- what is held for a reference

-- what is stored is held, and the rest as before
held_here : (n : ℕ) (trips : List Trips) (i : ℕ) (r : Trips) → i < length trips → held n (set trips i r) (ref i) ≡ r
unfolding held
held_here n trips i r room = get_or-set_same trips i r outside room

held_other : (n : ℕ) (trips : List Trips) (i x : ℕ) (r : Trips) → (x ≡ ref i → ⊥) → held n (set trips i r) x ≡ held n trips x
unfolding held
held_other n trips i zero r e = refl
held_other n trips i (suc zero) r e = refl
held_other n trips i (suc (suc j)) r e = get_or-set_other trips i j r outside (λ z. e (ap ref z))

-- ---- constants are right, and a right reference stays so

module _ (t : List ℕ) (n : ℕ) (trips : List Trips) where
  right_constant : (x : ℕ) → Constant x → Right t n trips x
  unfolding held
  right_constant zero c = let e = sym (trips_constant t n false) in record { count = e; share = sym (share_none n) ∙ ap (λ k. share k n) e }
  right_constant (suc zero) c = let e = sym (trips_constant t n true) in record { count = e; share = sym (share_all n) ∙ ap (λ k. share k n) e }
  right_constant (suc (suc x)) c = absurd (omega arith)

  module _ (whole : Whole trips) {i : ℕ} (room : i < most_records) {r : Trips}
      (count : r.count ≡ trips_by t n (i + 2)) (share-is : r.share ≡ share (trips_by t n (i + 2)) n) where
    -- record i, once its own count and share are stored, and any other reference
    right_stored : Right t n (set trips i r) (ref i)
    right_stored = record {
      count = ap (λ a. a.count) here ∙ count ∙ ap (trips_by t n) (two_more i);
      share = ap (λ a. a.share) here ∙ share-is ∙ ap (λ x. share (trips_by t n x) n) (two_more i);
    }
      where
        here : held n (set trips i r) (ref i) ≡ r
        here = held_here n trips i r (omega (arith, whole))

    right_kept : (x : ℕ) → Right t n trips x → Right t n (set trips i r) x
    right_kept x right = go (ℕ_discrete x (ref i))
      where
        go : Dec (x ≡ ref i) → Right t n (set trips i r) x
        go (yes e) = rw e right_stored
        go (no e) = record {
          count = ap (λ a. a.count) (held_other n trips i x r e) ∙ right.count;
          share = ap (λ a. a.share) (held_other n trips i x r e) ∙ right.share;
        }

-- ---- one record

module _ (t o : List ℕ) (c : Countable t o) where
  -- a vertex is a constant or names a record of the table
  vertex_small : (x : ℕ) → Vertex Constant (lookup t) x → x < most_records + 2
  vertex_small x (inl b) = omega arith
  vertex_small x (inr u) = go (stored t x u.is)
    where
      go : {y v l h : ℕ} → Stored t y v l h → y < most_records + 2
      go (record_at i b m) = omega (arith, c.few_records)

-- two counts of at most all fit 64 bits together
pub sum_fits : {a b : ℕ} → a ≤ 2 ^ most_counted → b ≤ 2 ^ most_counted → a + b < 2 ^ 64
sum_fits p q = omega arith

module _ (t o : List ℕ) (i : ℕ) (c : CountableRecord t o i) where
  child_small : (side : Bool) → pick side (low_at t i) (high_at t i) < most_records + 2
  child_small side = vertex_small t o c.0 _ (c.0.graph.closed (ref i) (node_of t i c.1 c.2) side)

  pub low_small : {x : ℕ} → x ≡ low_at t i → x < most_records + 2
  low_small e = rw e (child_small false)

  pub high_small : {x : ℕ} → x ≡ high_at t i → x < most_records + 2
  high_small e = rw e (child_small true)

  mean : trips_by t (length o) (low_at t i) + trips_by t (length o) (high_at t i) ≡ trips_by t (length o) (i + 2) * 2
  mean = trips_mean t o c.0 (ref i) (node_of t i c.1 c.2) ∙ ap (λ x. trips_by t (length o) x * 2) (sym (two_more i))

  -- a count is at most all
  most : (x : ℕ) → trips_by t (length o) x ≤ 2 ^ most_counted
  most x = le_trans (trips_most t (length o) x) (pow_mono c.0.few_inputs)

  module _ {trips : List Trips} (low : Right t (length o) trips (low_at t i)) (high : Right t (length o) trips (high_at t i))
      {l h : ℕ} (is-low : l ≡ low_at t i) (is-high : h ≡ high_at t i)
      {a b : Trips} (of-low : a ≡ held (length o) trips l) (of-high : b ≡ held (length o) trips h) where
    low-is : a ≡ held (length o) trips (low_at t i)
    low-is = of-low ∙ ap (held (length o) trips) is-low

    high-is : b ≡ held (length o) trips (high_at t i)
    high-is = of-high ∙ ap (held (length o) trips) is-high

    low_count : a.count ≡ trips_by t (length o) (low_at t i)
    low_count = ap (λ r. r.count) low-is ∙ low.count

    high_count : b.count ≡ trips_by t (length o) (high_at t i)
    high_count = ap (λ r. r.count) high-is ∙ high.count

    pub counts_fit : a.count + b.count < 2 ^ 64
    counts_fit = rw (low_count, high_count) (sum_fits (most (low_at t i)) (most (high_at t i)))

    pub counts_halved : {m : ℕ} → m ≡ (a.count + b.count) / 2 → m ≡ trips_by t (length o) (i + 2)
    counts_halved e = omega (arith, low_count, high_count, mean)

    pub shares_halved : {s : Float} → s ≡ div binary64 (add binary64 a.share b.share) two → s ≡ share (trips_by t (length o) (i + 2)) (length o)
    shares_halved e =
        let x : a.share ≡ share (trips_by t (length o) (low_at t i)) (length o) = ap (λ r. r.share) low-is ∙ low.share in
        let y : b.share ≡ share (trips_by t (length o) (high_at t i)) (length o) = ap (λ r. r.share) high-is ∙ high.share in
        let most' = trips_most t (length o) in
        e ∙ rw (x, y) (share_mean _ _ _ (length o) c.0.few_inputs (most' (low_at t i)) (most' (high_at t i)) mean)

pub ruleset halving = (low_small, high_small, counts_fit, counts_halved, shares_halved, rules)

-- ---- a record in turn, whose variable is u, while the level's is v

module _ (t o : List ℕ) (v i : ℕ) (c : CountableVariable t o v) {trips : List Trips} (s : Settled t o v i trips)
    {u : ℕ} (is-u : u ≡ variable_at t i) where
  module _ (inside : i < records t) (same : u ≡ v) where
    -- a variable of the order is no mark of a free record
    level_used : Used t i
    level_used f = omega (arith, c.1, c.0.few_inputs)

    child_right : (side : Bool) → Right t (length o) trips (pick side (low_at t i) (high_at t i))
    child_right side = go (c.0.graph.closed (ref i) is side)
      where
        is : lookup t (ref i) ≡ node (variable_at t i) (low_at t i) (high_at t i)
        is = node_of t i inside level_used

        level : level_of o (variable_at t i) ≡ level_of o v
        level = ap (level_of o) (sym is-u ∙ same)

        go : Vertex Constant (lookup t) (pick side (low_at t i) (high_at t i)) → Right t (length o) trips (pick side (low_at t i) (high_at t i))
        go (inl b) = right_constant t (length o) trips _ b
        go (inr w) = s.below.from _ _ _ _ w.is (omega (arith, level, c.0.graph.ordered (ref i) is side w.is))

    pub low_right : Right t (length o) trips (low_at t i)
    low_right = child_right false

    pub high_right : Right t (length o) trips (high_at t i)
    high_right = child_right true

    room : i < most_records
    room = omega (arith, c.0.few_records)

    -- one of this level gets its count and share
    pub settled_goes : {r : Trips} → r.count ≡ trips_by t (length o) (i + 2) → r.share ≡ share (trips_by t (length o) (i + 2)) (length o)
        → Settled t o v (i + 1) (set trips i r)
    settled_goes {r} p q = record {
      below = record {
        whole = length-set trips i r ∙ s.below.whole;
        from = λ x v l h is b. kept x (s.below.from x v l h is b);
      };
      here = λ j l e. either_side j i
          (λ d. kept (ref j) (s.here j d e))
          (λ d. let z : j ≡ i = omega arith in rw z (right_stored t (length o) trips s.below.whole room p q));
    }
      where
        kept : (x : ℕ) → Right t (length o) trips x → Right t (length o) (set trips i r) x
        kept = right_kept t (length o) trips s.below.whole room p q

pub ruleset settling = (low_right, high_right, settled_goes, rules)

-- ---- level after level

-- level k, whose variable is v
module _ (t o : List ℕ) (k : ℕ) {v : ℕ} (c : Countable t o) (inside : k < length o) (is-v : v ≡ get_or o k 0) where
  at_level : level_of o v ≡ k
  at_level = ap (level_of o) is-v ∙ level_of_at o k c.order inside

  module _ {trips : List Trips} where
    pub settled_begins : RightFrom t o (k + 1) trips → Settled t o v 0 trips
    settled_begins b = record { below = rw at_level b; here = λ j l. absurd (omega arith) }

    -- after the last record the level is right too
    pub settled_ends : {i m : ℕ} → Settled t o v i trips → m ≡ records t → m ≤ i → RightFrom t o k trips
    settled_ends s counted last = record { whole = s.below.whole; from = λ x w l h is b. go (stored t x is) is b }
      where
        go : {y w a d : ℕ} → Stored t y w a d → lookup t y ≡ node w a d → k ≤ level_of o w → Right t (length o) trips y
        go (record_at j m u) e q =
            ⊎_elim
            (λ z. s.here j (omega arith) (on_level o (variable_at t j) k inside (sym z) ∙ sym is-v))
            (λ z. s.below.from (ref j) _ _ _ e (omega (arith, at_level)))
            (eq-or-lt_of_le q)

pub ruleset leveling = (settled_begins, settled_ends, rules)

-- ---- one reference, once all levels are right

module _ (t o : List ℕ) (x : ℕ) (vertex : Vertex Constant (lookup t) x) where
  pub reference_small : Countable t o → x < most_records + 2
  reference_small c = vertex_small t o c x vertex

  module _ {trips : List Trips} (right : RightFrom t o 0 trips) {r : Trips} (is : r ≡ held (length o) trips x) where
    reference_right : Right t (length o) trips x
    reference_right = go vertex
      where
        go : Vertex Constant (lookup t) x → Right t (length o) trips x
        go (inl b) = right_constant t (length o) trips x b
        go (inr u) = right.from x _ _ _ u.is (omega arith)

    pub trips_counted : r.count ≡ trips_by t (length o) x
    trips_counted = ap (λ a. a.count) is ∙ reference_right.count

    pub trips_shared : r.share ≡ share (trips_by t (length o) x) (length o)
    trips_shared = ap (λ a. a.share) is ∙ reference_right.share

pub ruleset telling = (reference_small, trips_counted, trips_shared, rules)
