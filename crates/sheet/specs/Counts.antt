-- Counts and shares of the sheet's stores, and of some of our own: one table of examples under one claim, over the bytes.
use Rattle.std.specs.Prelude.{ℕ, List, [], ◌∷◌, map, ◌≡◌, refl, Err}
use Rattle.std.specs.Float.{binary64}
use Rattle.std.specs.Float.Ieee.{round, of_bits}
use Rattle.lists.specs.Combinations.{combinations, passing, how_many}
use Rattle.lists.specs.Count.{count}
use Rattle.lists.specs.Each.{each}
use Rattle.lists.specs.First.{first}
use Rattle.lists.specs.Tabulate.{tabulate}
use Rattle.diagrams.specs.Node.{Node, free, node, look}
use Rattle.diagrams.specs.Decode.{node_at, decode, eight, encode}
use Rattle.diagrams.specs.Value.{chosen, met, value}
use Rattle.count_shares.specs.Share.{share}
use Rattle.checks.specs.Stages.{refusal}
use Rattle.checks.specs.declared.Fault.TheVariants.{Idle, NoRoot}
use Rattle.checks.specs.Check.{check_stages}
use Rattle.checks.specs.Opened.{opened_stages}
use Rattle.reading.specs.Read.{input_of, root_value}
use Rattle.counting.specs.Count as counting
use Rattle.counting.specs.Count.{count_stages, trips, CountAnswer, count_of}
use Rattle.sheet.specs.Sheet.{root_bytes}

pub record Row : Type 0 where
  pub records : List Node
  pub roots : List ℕ
  pub order : List ℕ
  pub position : ℕ
  pub answer : CountAnswer

unfoldable pub row : List Node → List ℕ → List ℕ → ℕ → CountAnswer → Row
row t r o position a = record { records = t; roots = r; order = o; position = position; answer = a }

-- a count, and its share by the bits of the double
unfoldable pub of : ℕ → ℕ → CountAnswer
of c bits = counting.counted c (of_bits binary64 bits)

-- what Count answers, by the definition in its contract; `unfolding counted` opens all that it is computed with
unfoldable pub counted : Row → CountAnswer
unfolding node_at decode eight encode root_bytes check_stages opened_stages first count tabulate each look combinations passing how_many chosen met
    value input_of root_value count_stages trips count_of share round
counted g = count_of (encode g.records) (root_bytes g.roots) g.order g.position

unfoldable pub rows : List Row
rows =
    -- A: 1 of 4, a quarter; and after its swap
    row (node 1 0 1 ∷ node 0 0 2 ∷ free ∷ []) (3 ∷ []) (0 ∷ 1 ∷ []) 0 (of 1 0x3fd0_0000_0000_0000)
    ∷ row (free ∷ node 1 0 4 ∷ node 0 0 1 ∷ []) (3 ∷ []) (1 ∷ 0 ∷ []) 0 (of 1 0x3fd0_0000_0000_0000)
    -- A with a third input that no record asks for: at the top, between the two, at the bottom
    ∷ row (node 1 0 1 ∷ node 0 0 2 ∷ []) (3 ∷ []) (2 ∷ 0 ∷ 1 ∷ []) 0 (of 2 0x3fd0_0000_0000_0000)
    ∷ row (node 1 0 1 ∷ node 0 0 2 ∷ []) (3 ∷ []) (0 ∷ 2 ∷ 1 ∷ []) 0 (of 2 0x3fd0_0000_0000_0000)
    ∷ row (node 1 0 1 ∷ node 0 0 2 ∷ []) (3 ∷ []) (0 ∷ 1 ∷ 2 ∷ []) 0 (of 2 0x3fd0_0000_0000_0000)
    -- C: its second root, a record of the lowest level, is a half
    ∷ row (node 1 0 1 ∷ node 0 0 2 ∷ free ∷ []) (3 ∷ 2 ∷ []) (0 ∷ 1 ∷ []) 1 (of 2 0x3fe0_0000_0000_0000)
    -- F: exclusive or, a half
    ∷ row (node 1 0 1 ∷ node 1 1 0 ∷ node 0 2 3 ∷ free ∷ []) (4 ∷ []) (0 ∷ 1 ∷ []) 0 (of 2 0x3fe0_0000_0000_0000)
    -- either of two: three quarters
    ∷ row (node 1 0 1 ∷ node 0 2 1 ∷ []) (3 ∷ []) (0 ∷ 1 ∷ []) 0 (of 3 0x3fe8_0000_0000_0000)
    -- the constant roots: none of 8, and all
    ∷ row [] (0 ∷ 1 ∷ []) (0 ∷ 1 ∷ 2 ∷ []) 0 (of 0 0)
    ∷ row [] (0 ∷ 1 ∷ []) (0 ∷ 1 ∷ 2 ∷ []) 1 (of 8 0x3ff0_0000_0000_0000)
    -- no such root; a record that nothing names wins over that
    ∷ row (node 0 0 1 ∷ []) (2 ∷ []) (0 ∷ []) 1 (Err (refusal NoRoot 1))
    ∷ row (node 0 0 1 ∷ []) (1 ∷ []) (0 ∷ []) 1 (Err (refusal Idle 0))
    ∷ []

-- every row comes out as it stands there
pub counts : map counted rows ≡ map (λ g. g.answer) rows
unfolding counted rows row of of_bits
counts = refl
