-- An answer's numbers written to a lent list: all of them at its front, or none where it is too short.
use Rattle.std.specs.Prelude.{ℕ, cond, List, ◌++◌, ltb, length, drop}
use Rattle.undo.specs.Stores.{State}

pub record Written : Type 0 where
  pub count : ℕ
  pub list : List ℕ

abbrev pub wrote : ℕ → List ℕ → Written
wrote count list = record { count = count; list = list }

unfoldable pub written : List ℕ → List ℕ → Written
written list numbers =
    cond (ltb (length list) (length numbers))
    (wrote 0 list)
    (wrote (length numbers) (numbers ++ drop (length numbers) list))

-- ---- a call that may change a table, an order and a log: only where its whole answer fits the lent list

pub record Told : Type 0 where
  pub written : Written
  pub state : State

-- `most` is how many numbers the longest answer has
unfoldable pub told : ℕ → List ℕ → State → List ℕ → State → Told
told most list s numbers s' =
    cond (ltb (length list) most) (record { written = wrote 0 list; state = s }) (record { written = written list numbers; state = s' })
