-- Case A of the bench sheet with logs of its own, and rows of ours: the answer, and the log afterwards byte by byte.
use Rattle.std.specs.Prelude.{ℕ, ◌*◌, List, [], ◌∷◌, ◌++◌, map, ◌≡◌, refl, replicate, Ok, Err}
use Rattle.diagrams.specs.Node.{Node, free, node}
use Rattle.checks.specs.Stages.{refusal}
use Rattle.checks.specs.declared.Fault.TheVariants.{BadLog, SealedLog}
use Rattle.swap_ways.specs.Ways.{lack, short}
use Rattle.runs.specs.Run.{RunAnswer}
use Rattle.runs.specs.declared.Slice.TheVariants.{Done, NoRoom, LogShort, Paused}
use Rattle.sheet.specs.Sheet.{Given, root_bytes, outcome, ran_from}

pub record LogRow : Type 0 where
  pub given : Given
  pub answer : RunAnswer
  pub log : List ℕ

pub record Logged : Type 0 where
  pub answer : RunAnswer
  pub log : List ℕ

unfoldable pub logged : LogRow → Logged
unfolding outcome
logged row = let w = ran_from row.given in record { answer = w.answer; log = w.state.log }

unfoldable pub said : LogRow → Logged
said row = record { answer = row.answer; log = row.log }

-- order 0 1, target 1 0, by Bring Up: records, roots, log, budget; the answer and the log afterwards
unfoldable pub swap : List Node → List ℕ → List ℕ → ℕ → RunAnswer → List ℕ → LogRow
swap t r l b a l' = record {
  given = record { records = t; roots = r; order = 0 ∷ 1 ∷ []; target = 1 ∷ 0 ∷ []; log = l; plan = 0; budget = b };
  answer = a;
  log = l';
}

-- A: the three records and the order pair
unfoldable pub entries : List ℕ
entries =
    0 ∷ 0 ∷ 0 ∷ 0 ∷ 1 ∷ 0 ∷ 0 ∷ 0 ∷ 1 ∷ 0 ∷ 0 ∷ 0 ∷ 0 ∷ 0 ∷ 0 ∷ 0
    ∷ 0 ∷ 0 ∷ 1 ∷ 0 ∷ 0 ∷ 0 ∷ 0 ∷ 0 ∷ 2 ∷ 0 ∷ 0 ∷ 0 ∷ 0 ∷ 0 ∷ 0 ∷ 0
    ∷ 0 ∷ 0 ∷ 2 ∷ 0 ∷ 255 ∷ 0 ∷ 0 ∷ 0 ∷ 0 ∷ 0 ∷ 0 ∷ 0 ∷ 0 ∷ 0 ∷ 0 ∷ 0
    ∷ 0 ∷ 1 ∷ 0 ∷ 0 ∷ 0 ∷ 1 ∷ 0 ∷ 0 ∷ 0 ∷ 0 ∷ 0 ∷ 0 ∷ 0 ∷ 0 ∷ 0 ∷ 0 ∷ []

-- so many records of old bytes, and a seal whose byte 0 is cleared and whose other bytes aren't
unfoldable pub old : ℕ → List ℕ
old n = replicate (16 * n) 7 ++ (0 ∷ replicate 15 7)

-- a seal that counts four entries, cleared
unfoldable pub cleared : List ℕ
cleared = 0 ∷ 0 ∷ 4 ∷ 0 ∷ replicate 12 0

unfoldable pub rows : List LogRow
rows =
    -- A with a log of 4 records, budget spent or not
    swap (node 1 0 1 ∷ node 0 0 2 ∷ free ∷ []) (3 ∷ []) (replicate 64 0) 1 (Ok (LogShort 0 1 (short 0 4 3))) (replicate 64 0)
    ∷ swap (node 1 0 1 ∷ node 0 0 2 ∷ free ∷ []) (3 ∷ []) (replicate 64 0) 0 (Ok (LogShort 0 1 (short 0 4 3))) (replicate 64 0)
    -- with 5 records, and with 6: the one behind the entries stays
    ∷ swap (node 1 0 1 ∷ node 0 0 2 ∷ free ∷ []) (3 ∷ []) (replicate 80 0) 1 (Ok (Done 1 0)) (entries ++ cleared)
    ∷ swap (node 1 0 1 ∷ node 0 0 2 ∷ free ∷ []) (3 ∷ []) (old 5) 1 (Ok (Done 1 0)) (entries ++ replicate 16 7 ++ cleared)
    ∷ swap (node 1 0 1 ∷ node 0 0 2 ∷ free ∷ []) (3 ∷ []) (old 4) 0 (Ok (Paused 0 1)) (old 4)
    -- B with roots 3 and 2 and the shortest log: no room is judged first
    ∷ swap (node 1 0 1 ∷ node 0 0 2 ∷ []) (3 ∷ 2 ∷ []) (replicate 16 0) 1 (Ok (NoRoom 0 1 (lack 0 1 0))) (replicate 16 0)
    -- a log of no record, and one that is sealed; 14 wins over 15
    ∷ swap (node 1 0 1 ∷ node 0 0 2 ∷ free ∷ []) (3 ∷ []) [] 1 (Err (refusal BadLog 0)) []
    ∷ swap (node 1 0 1 ∷ node 0 0 2 ∷ free ∷ []) (3 ∷ []) (165 ∷ replicate 15 0) 1 (Err (refusal SealedLog 0)) (165 ∷ replicate 15 0)
    ∷ swap (node 1 0 1 ∷ node 0 0 2 ∷ free ∷ []) (3 ∷ []) (165 ∷ 0 ∷ 1 ∷ replicate 13 0) 1 (Err (refusal BadLog 0)) (165 ∷ 0 ∷ 1 ∷ replicate 13 0)
    ∷ []

pub logs : map logged rows ≡ map said rows
unfolding logged said rows swap entries old cleared outcome root_bytes
logs = refl
