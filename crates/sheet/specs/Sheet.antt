-- Cases A to H and J of the bench sheet, G and H by every plan, and rows of our own: one table of examples under one claim. Each row is one run, over the
-- bytes.
use Rattle.std.specs.Prelude.{ℕ, ◌*◌, ◌/◌, ◌%◌, List, [], ◌∷◌, ◌++◌, map, ◌≡◌, refl, replicate, Ok, Err}
use Rattle.lists.specs.First.{first}
use Rattle.lists.specs.Last.{last}
use Rattle.lists.specs.Count.{count}
use Rattle.lists.specs.Total.{total, pairs}
use Rattle.lists.specs.Tabulate.{tabulate}
use Rattle.lists.specs.Keep.{keep}
use Rattle.lists.specs.Which.{which}
use Rattle.lists.specs.Each.{each}
use Rattle.lists.specs.Once.{once}
use Rattle.diagrams.specs.Node.{Node, free, node, look}
use Rattle.diagrams.specs.Decode.{node_at, decode, eight, encode}
use Rattle.diagrams.specs.Lookup.{roots_of}
use Rattle.orders.specs.Exchange.{exchange}
use Rattle.plans.specs.Inversions.{inverted, left}
use Rattle.plans.specs.Plans.{differs_at, same?}
use Rattle.plans.specs.BringUp.{bring_up, first_difference}
use Rattle.plans.specs.SinkDown.{sink_down, last_difference}
use Rattle.plans.specs.Nearest.{inverted_at, lowest_inversion, highest_inversion}
use Rattle.plans.specs.Numbered.{plan_of, no_plan}
use Rattle.checks.specs.Stages.{refusal}
use Rattle.checks.specs.Opened.{opened_stages}
use Rattle.checks.specs.Check.{used}
use Rattle.checks.specs.declared.Fault.TheVariants.{Idle, NoPlan}
use Rattle.swap_rules.specs.Record.{low_of, high_of, is_free_node, is_of, same}
use Rattle.swap_rules.specs.Swap.{x_at, y_at, grandchild, f00, f01, f10, f11, crosses, asked, stands, is_new, wanted, news, still_names, dies, slots, slot_of}
use Rattle.swap_rules.specs.Swap.{dying_count, X, becomes, needed, free_count, used_count, used_afterwards, fits, slot_index, filled, record_after, swapped}
use Rattle.swap_preparing.specs.Table.{needed_in, table_after}
use Rattle.undo.specs.Stores.{state, run, put, puts}
use Rattle.undo.specs.Calls.{Ended}
use Rattle.undo.specs.Log.{changed, entries_of, entries_needed, entry_stores, logging, sealing, putting, swap_stores}
use Rattle.check_log.specs.BadLog.{bad_log_size, some_byte, bad_seal, malformed, past, repeats, bad_entry, entry_stages, log_stages, open_stages}
use Rattle.swap_ways.specs.Ways.{way_of, lack}
use Rattle.slice_rules.specs.Slices as over
use Rattle.slice_rules.specs.Slices.{arrived, next, goes, made, leaves, slice}
use Rattle.runs.specs.OneSwap.{plain_swap}
use Rattle.runs.specs.Run.{relay, run_stores, bad_run_sizes, order_stages, store_stages, run_stages, RunAnswer, answer_of, run_call, run_of}
use Rattle.runs.specs.declared.Slice.TheVariants.{Done, NoRoom, Paused}

-- the buffers, the plan's number and the budget of a run
pub record Given : Type 0 where
  pub records : List Node
  pub roots : List ℕ
  pub order : List ℕ
  pub target : List ℕ
  pub log : List ℕ
  pub plan : ℕ
  pub budget : ℕ

-- the new records that its first swap needs, its answer, the records and the order afterwards, and how many records are used then
pub record Row : Type 0 where
  pub given : Given
  pub needed : ℕ
  pub answer : RunAnswer
  pub records : List Node
  pub order : List ℕ
  pub used : ℕ

pub record Outcome : Type 0 where
  pub needed : ℕ
  pub answer : RunAnswer
  pub table : List ℕ
  pub order : List ℕ
  pub used : ℕ

-- a root is two bytes, little end first
unfoldable pub root_bytes : List ℕ → List ℕ
root_bytes [] = []
root_bytes (x ∷ s) = x % 256 ∷ x / 256 ∷ root_bytes s

abbrev pub ran_from : Given → Ended RunAnswer
ran_from g = run_of plain_swap g.plan (state (encode g.records) g.order g.log) (root_bytes g.roots) g.target g.budget

-- what the run gives, by the definition in its contract; `unfolding outcome` opens all that a run is computed with
unfoldable pub outcome : Row → Outcome
unfolding node_at decode eight encode roots_of run_call run_stages store_stages order_stages bad_run_sizes opened_stages open_stages log_stages
    entry_stages bad_log_size bad_seal some_byte bad_entry malformed past repeats answer_of relay run_stores run put puts changed entries_of
    entries_needed entry_stores logging sealing putting swap_stores slice leaves over.judge made goes next arrived same? plan_of no_plan differs_at
    bring_up first_difference sink_down last_difference inverted_at lowest_inversion highest_inversion exchange left inverted pairs total first last
    count tabulate keep once each which look low_of high_of is_free_node is_of same grandchild f00 f01 f10 f11 crosses asked stands is_new wanted news
    still_names dies dying_count slots slot_of X becomes needed free_count used_count used_afterwards fits slot_index filled record_after swapped
    way_of table_after
outcome row =
    let g = row.given in
    let k = plan_of g.plan g.order g.target in
    let w = ran_from g in
    record {
      needed = needed_in (encode g.records) (x_at g.order k) (y_at g.order k);
      answer = w.answer;
      table = w.state.table;
      order = w.state.order;
      used = used w.state.table;
    }

-- what the sheet says
unfoldable pub expected : Row → Outcome
expected row = record { needed = row.needed; answer = row.answer; table = encode row.records; order = row.order; used = row.used }

-- an empty log of so many records
abbrev empty_log : ℕ → List ℕ
empty_log n = replicate (16 * n) 0

-- order 0 1, target 1 0, by Bring Up: records, roots, budget; needed, answer, records, order and used records afterwards
unfoldable pub swap : List Node → List ℕ → ℕ → ℕ → RunAnswer → List Node → List ℕ → ℕ → Row
swap t r b n a t' o u =
    let g : Given = record { records = t; roots = r; order = 0 ∷ 1 ∷ []; target = 1 ∷ 0 ∷ []; log = empty_log 8; plan = 0; budget = b } in
    record { given = g; needed = n; answer = a; records = t'; order = o; used = u }

-- no records, no roots: order, target, plan, budget; answer and order afterwards
unfoldable pub orders : List ℕ → List ℕ → ℕ → ℕ → RunAnswer → List ℕ → Row
orders o g p b a o' =
    let given : Given = record { records = []; roots = []; order = o; target = g; log = empty_log 2; plan = p; budget = b } in
    record { given = given; needed = 0; answer = a; records = []; order = o'; used = 0 }

-- three swaps from o to g, by a plan: the orders after the first and the second
unfoldable pub in_three : List ℕ → List ℕ → ℕ → List ℕ → List ℕ → List Row
in_three o g p o₁ o₂ = orders o g p 1 (Ok (Paused 1 2)) o₁ ∷ orders o g p 2 (Ok (Paused 2 1)) o₂ ∷ orders o g p 9 (Ok (Done 3 0)) g ∷ []

unfoldable pub stores : List Row
stores =
    -- A
    swap (node 1 0 1 ∷ node 0 0 2 ∷ free ∷ []) (3 ∷ []) 1
    1 (Ok (Done 1 0)) (free ∷ node 1 0 4 ∷ node 0 0 1 ∷ []) (1 ∷ 0 ∷ []) 2
    -- B: A with only records 0 and 1: the new record takes the one that dies; with roots 3 and 2 that one lives, and there is no room
    ∷ swap (node 1 0 1 ∷ node 0 0 2 ∷ []) (3 ∷ []) 1
    1 (Ok (Done 1 0)) (node 0 0 1 ∷ node 1 0 2 ∷ []) (1 ∷ 0 ∷ []) 2
    ∷ swap (node 1 0 1 ∷ node 0 0 2 ∷ []) (3 ∷ 2 ∷ []) 1
    1 (Ok (NoRoom 0 1 (lack 0 1 0))) (node 1 0 1 ∷ node 0 0 2 ∷ []) (0 ∷ 1 ∷ []) 2
    -- C: A with roots 3 and 2: record 0 stays
    ∷ swap (node 1 0 1 ∷ node 0 0 2 ∷ free ∷ []) (3 ∷ 2 ∷ []) 1
    1 (Ok (Done 1 0)) (node 1 0 1 ∷ node 1 0 4 ∷ node 0 0 1 ∷ []) (1 ∷ 0 ∷ []) 3
    -- D: none is free, and none is needed
    ∷ swap (node 1 0 1 ∷ node 0 0 2 ∷ node 0 0 1 ∷ []) (3 ∷ 4 ∷ []) 1
    0 (Ok (Done 1 0)) (free ∷ node 1 0 4 ∷ node 0 0 1 ∷ []) (1 ∷ 0 ∷ []) 2
    -- E: the order alone is altered
    ∷ swap (node 0 0 1 ∷ node 1 0 1 ∷ []) (2 ∷ 3 ∷ []) 1
    0 (Ok (Done 1 0)) (node 0 0 1 ∷ node 1 0 1 ∷ []) (1 ∷ 0 ∷ []) 2
    -- F: exclusive or; and with one record fewer: the first new record takes the free one, the second the lower of the two that die
    ∷ swap (node 1 0 1 ∷ node 1 1 0 ∷ node 0 2 3 ∷ free ∷ free ∷ []) (4 ∷ []) 1
    2 (Ok (Done 1 0)) (free ∷ free ∷ node 1 5 6 ∷ node 0 0 1 ∷ node 0 1 0 ∷ []) (1 ∷ 0 ∷ []) 3
    ∷ swap (node 1 0 1 ∷ node 1 1 0 ∷ node 0 2 3 ∷ free ∷ []) (4 ∷ []) 1
    2 (Ok (Done 1 0)) (node 0 1 0 ∷ free ∷ node 1 5 2 ∷ node 0 0 1 ∷ []) (1 ∷ 0 ∷ []) 3
    -- two crossing records that ask for the same new one: it is made for the lower and serves the other
    ∷ swap (node 1 0 1 ∷ node 0 0 2 ∷ node 0 2 1 ∷ free ∷ []) (3 ∷ 4 ∷ []) 1
    1 (Ok (Done 1 0)) (free ∷ node 1 0 5 ∷ node 1 5 1 ∷ node 0 0 1 ∷ []) (1 ∷ 0 ∷ []) 3
    -- two that ask for different ones: the lower record's goes to the lower free record
    ∷ swap (node 1 0 1 ∷ node 0 0 2 ∷ node 0 1 2 ∷ free ∷ free ∷ []) (3 ∷ 4 ∷ []) 1
    2 (Ok (Done 1 0)) (free ∷ node 1 0 5 ∷ node 1 6 1 ∷ node 0 0 1 ∷ node 0 1 0 ∷ []) (1 ∷ 0 ∷ []) 4
    -- J: budget 0 in A, in B with roots 3 and 2, and with the order equal to the target
    ∷ swap (node 1 0 1 ∷ node 0 0 2 ∷ free ∷ []) (3 ∷ []) 0
    1 (Ok (Paused 0 1)) (node 1 0 1 ∷ node 0 0 2 ∷ free ∷ []) (0 ∷ 1 ∷ []) 2
    ∷ swap (node 1 0 1 ∷ node 0 0 2 ∷ []) (3 ∷ 2 ∷ []) 0
    1 (Ok (NoRoom 0 1 (lack 0 1 0))) (node 1 0 1 ∷ node 0 0 2 ∷ []) (0 ∷ 1 ∷ []) 2
    ∷ orders (1 ∷ 0 ∷ []) (1 ∷ 0 ∷ []) 0 0 (Ok (Done 0 0)) (1 ∷ 0 ∷ [])
    -- no plan has this number; a record that nothing names wins over that
    ∷ orders (0 ∷ 1 ∷ []) (1 ∷ 0 ∷ []) 4 1 (Err (refusal NoPlan 4)) (0 ∷ 1 ∷ [])
    ∷ record {
      given = record { records = node 0 0 1 ∷ []; roots = []; order = 0 ∷ 1 ∷ []; target = 1 ∷ 0 ∷ []; log = empty_log 8; plan = 4; budget = 1 };
      needed = 0;
      answer = Err (refusal Idle 0);
      records = node 0 0 1 ∷ [];
      order = 0 ∷ 1 ∷ [];
      used = 1;
    }
    ∷ []

-- each order on the way, by every plan
unfoldable pub ways : List Row
ways =
    -- G
    in_three (0 ∷ 1 ∷ 2 ∷ []) (2 ∷ 1 ∷ 0 ∷ []) 0 (0 ∷ 2 ∷ 1 ∷ []) (2 ∷ 0 ∷ 1 ∷ [])
    ++ in_three (0 ∷ 1 ∷ 2 ∷ []) (2 ∷ 1 ∷ 0 ∷ []) 1 (1 ∷ 0 ∷ 2 ∷ []) (1 ∷ 2 ∷ 0 ∷ [])
    ++ in_three (0 ∷ 1 ∷ 2 ∷ []) (2 ∷ 1 ∷ 0 ∷ []) 2 (0 ∷ 2 ∷ 1 ∷ []) (2 ∷ 0 ∷ 1 ∷ [])
    ++ in_three (0 ∷ 1 ∷ 2 ∷ []) (2 ∷ 1 ∷ 0 ∷ []) 3 (1 ∷ 0 ∷ 2 ∷ []) (1 ∷ 2 ∷ 0 ∷ [])
    -- H
    ++ in_three (0 ∷ 1 ∷ 2 ∷ 3 ∷ []) (1 ∷ 3 ∷ 0 ∷ 2 ∷ []) 0 (1 ∷ 0 ∷ 2 ∷ 3 ∷ []) (1 ∷ 0 ∷ 3 ∷ 2 ∷ [])
    ++ in_three (0 ∷ 1 ∷ 2 ∷ 3 ∷ []) (1 ∷ 3 ∷ 0 ∷ 2 ∷ []) 1 (0 ∷ 1 ∷ 3 ∷ 2 ∷ []) (1 ∷ 0 ∷ 3 ∷ 2 ∷ [])
    ++ in_three (0 ∷ 1 ∷ 2 ∷ 3 ∷ []) (1 ∷ 3 ∷ 0 ∷ 2 ∷ []) 2 (0 ∷ 1 ∷ 3 ∷ 2 ∷ []) (1 ∷ 0 ∷ 3 ∷ 2 ∷ [])
    ++ in_three (0 ∷ 1 ∷ 2 ∷ 3 ∷ []) (1 ∷ 3 ∷ 0 ∷ 2 ∷ []) 3 (1 ∷ 0 ∷ 2 ∷ 3 ∷ []) (1 ∷ 0 ∷ 3 ∷ 2 ∷ [])

unfoldable pub rows : List Row
rows = stores ++ ways

-- every row comes out as the sheet has it
pub sheet : map outcome rows ≡ map expected rows
unfolding outcome expected rows stores ways swap orders in_three root_bytes
sheet = refl
