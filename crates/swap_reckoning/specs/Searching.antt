-- X(a, b) as the code looks for it: among the standing records, among the new ones so far, and else as one more new record.
use Rattle.std.specs.Prelude.{ℕ, ◌+◌, ◌*◌, ◌≤◌, ◌<◌, Bool, cond, ◌&&◌, List, [], ◌∷◌, ◌++◌, ◌≡◌, eqb, length, get_or}
use Rattle.lists.specs.First.{first, any}
use Rattle.diagrams.specs.Layout.{most_records, records, low_at, high_at}
use Rattle.swap_records.specs.Children.{children, children_at}
use Rattle.swap_records.specs.Listed.{Inside}
use Rattle.swap_records.specs.declared.children.Children.{Children}

-- record j has low a and high b
abbrev pub hits : List ℕ → ℕ → ℕ → ℕ → Bool
hits t a b j = eqb a (low_at t j) && eqb b (high_at t j)

-- so has entry k of the standing records
unfoldable pub matches_at : List ℕ → List ℕ → ℕ → ℕ → ℕ → Bool
matches_at t standing a b k = hits t a b (get_or standing k 0)

-- entry k of the new records is c
unfoldable pub new_at : List Children → Children → ℕ → Bool
new_at news c k = eqb c.low (children_at news k).low && eqb c.high (children_at news k).high

-- the reference of the slot that new record j goes into; past the last slot, that of record 0
unfoldable pub slot_at : List ℕ → ℕ → ℕ
slot_at slots j = get_or slots j 0 + 2

module _ (t standing : List ℕ) (news : List Children) (a b : ℕ) where
  -- a and b are asked for: they are one, a record stands, one is new already, or a new one goes to the end
  unfoldable pub note_pair : List Children
  note_pair =
      cond (eqb a b) news
      (cond (any (matches_at t standing a b) (length standing)) news
      (cond (any (new_at news (children a b)) (length news)) news
      (news ++ (children a b ∷ []))))

  -- what is then found
  unfoldable pub settled_at : List ℕ → ℕ
  settled_at slots =
      cond (eqb a b) a
      (cond (any (matches_at t standing a b) (length standing)) (get_or standing (first (matches_at t standing a b) (length standing)) 0 + 2)
      (slot_at slots (first (new_at news (children a b)) (length news))))

-- ---- one request

-- the lists can be searched, and there is room for a new record
pub record Searchable (t standing slots : List ℕ) (news : List Children) : Type 0 where
  pub few : records t ≤ most_records
  pub standing_in : Inside t standing
  pub slots_in_lem : Inside t slots
  pub room : length news < 2 * most_records

pub record Noted (t standing slots : List ℕ) (news : List Children) (a b : ℕ) (news' : List Children) (r : ℕ) : Type 0 where
  pub noted : news' ≡ note_pair t standing news a b
  pub settled : r ≡ settled_at t standing news a b slots
  pub small : r < 65536
  pub few : length news' ≤ length news + 1
