-- The count of a record is the mean of its low's and its high's: the input of its variable says which of them it follows, and neither asks for that input.
use Rattle.std.specs.Prelude.{ℕ, ◌+◌, ◌*◌, ◌^◌, ◌≤◌, ◌<◌, Bool, List, ◌≡◌, refl, eqb, length, set}
use Rattle.std.proofs.Math.Bool.{true, false}
use Rattle.std.proofs.Common.{ap, sym, ◌∙◌, arith, get_or-set_same, get_or-set_other}
use Rattle.lists.specs.Combinations.{how_many, all_or_none}
use Rattle.lists.proofs.Combinations.{many_if, many_most, many_choice}
use Rattle.lists.specs.Count.{bit, bit_small, bit_one}
use Rattle.diagrams.specs.Layout.{most_records, records}
use Rattle.diagrams.specs.Node.{node, pick, Constant, at}
use Rattle.diagrams.specs.Decode.{decode}
use Rattle.diagrams.specs.Lookup.{lookup}
use Rattle.diagrams.specs.Bryant.{Ordered}
use Rattle.diagrams.specs.Levels.{child_below}
use Rattle.diagrams.specs.Value.{value}
use Rattle.diagrams.specs.Falls.{value_terminal, value_step, value_agrees}
use Rattle.diagrams.proofs.Reduced.{look_ends}
use Rattle.orders.specs.Permutation.{Permutation, level_of, inside_level}
use Rattle.count_shares.specs.Share.{most_counted}
use Rattle.reading.specs.Read.{input_of}

-- under how many combinations of n inputs the reference x is 1
unfoldable pub trips_by : List ℕ → ℕ → ℕ → ℕ
trips_by t n x = how_many n (λ inputs. value (lookup t) (input_of inputs) n x)

-- what counting asks of a table and its order
pub record Countable (t o : List ℕ) : Type 0 where
  pub few_records : records t ≤ most_records
  pub few_inputs : length o ≤ most_counted
  pub order : Permutation o
  pub graph : Ordered Constant (lookup t) (λ x. ⊥) (level_of o) (length o)

module _ (t : List ℕ) (n : ℕ) where
  -- false is 1 under none, true under all
  pub trips_constant : (b : Bool) → trips_by t n (bit b) ≡ all_or_none b n
  unfolding trips_by
  trips_constant b =
      let ends = look_ends (at (decode t)) (bit b) (omega (arith, bit_small b)) in
      many_if b n _ (λ inputs c. value_terminal (lookup t) (input_of inputs) n (bit b) ends ∙ bit_one b)

  pub trips_most : (x : ℕ) → trips_by t n x ≤ 2 ^ n
  unfolding trips_by
  trips_most x = many_most n (λ inputs. value (lookup t) (input_of inputs) n x)

-- the input of v in a list where it has been set, and that of another variable
input_set : (inputs : List ℕ) (v b : ℕ) → v < length inputs → input_of (set inputs v b) v ≡ eqb b 1
unfolding input_of
input_set inputs v b h = ap (λ (x : ℕ). eqb x 1) (get_or-set_same inputs v b 0 h)

input_kept : (inputs : List ℕ) (v w b : ℕ) → (w ≡ v → ⊥) → input_of (set inputs v b) w ≡ input_of inputs w
unfolding input_of
input_kept inputs v w b f = ap (λ (x : ℕ). eqb x 1) (get_or-set_other inputs v w b 0 f)

module _ (t o : List ℕ) (c : Countable t o) (x : ℕ) {v l h : ℕ} (is : lookup t x ≡ node v l h) where
  abbrev n : ℕ
  n = length o

  in_range : v < n
  in_range = inside_level o v c.order (c.graph.indexed x is)

  -- with input v set, the record's value is that of its low or its high
  goes : (side : Bool) (b : ℕ) → eqb b 1 ≡ side → (inputs : List ℕ) → length inputs ≡ n
      → value (lookup t) (input_of (set inputs v b)) n x ≡ value (lookup t) (input_of (set inputs v b)) n (pick side l h)
  goes side b e inputs long =
      value_step (look_ends (at (decode t))) c.graph (input_of (set inputs v b)) x is
      ∙ ap (λ (s : Bool). value (lookup t) (input_of (set inputs v b)) n (pick s l h)) (input_set inputs v b (omega (arith, in_range)) ∙ e)

  -- below the record nothing asks for input v
  deaf : (side : Bool) (inputs : List ℕ)
      → value (lookup t) (input_of (set inputs v 0)) n (pick side l h) ≡ value (lookup t) (input_of (set inputs v 1)) n (pick side l h)
  deaf side inputs =
      let below = child_below (look_ends (at (decode t))) c.graph x is side in
      value_agrees (look_ends (at (decode t))) c.graph (input_of (set inputs v 0)) (input_of (set inputs v 1)) (pick side l h) (c.graph.closed x is side)
      (λ w d. let f : w ≡ v → ⊥ = λ e. omega (arith, below, ap (level_of o) e) in input_kept inputs v w 0 f ∙ sym (input_kept inputs v w 1 f))

  pub trips_mean : trips_by t (length o) l + trips_by t (length o) h ≡ trips_by t (length o) x * 2
  unfolding trips_by
  trips_mean =
      many_choice n v _ _ _ in_range
      (record { low = goes false 0 refl; high = goes true 1 refl; low_deaf = λ inputs e. deaf false inputs; high_deaf = λ inputs e. deaf true inputs })
