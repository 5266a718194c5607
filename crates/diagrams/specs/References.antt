-- What a reference names: a constant, a record of the table, used or free, or nothing.
-- docs/RULES.md, 1.2.
use Rattle.std.specs.Prelude.{ℕ, ◌-◌, ◌≤◌, ◌<◌, Bool, true, false, not, ◌&&◌, ◌||◌, List, ◌⊎◌, ◌≡◌, ltb, leb}
use Rattle.std.proofs.Common.{sym, ◌∙◌, arith, rules}
use borrow.Author.Tests.{lt-ltb, le-ltb, lt-leb, le-leb}
use Rattle.lists.specs.Says.{Says, says, refutes, either_side}
use Rattle.diagrams.specs.Layout.{records, variable_at, is_free, InTable}

-- x is no constant, and not past the table
unfoldable pub names_record : List ℕ → ℕ → Bool
names_record t x = leb 2 x && ltb (x - 2) (records t)

-- x is past the table or to a free record
unfoldable pub dead : List ℕ → ℕ → Bool
dead t x = leb 2 x && (leb (records t) (x - 2) || is_free t (x - 2))

-- the same as a fact
abbrev pub Dead : List ℕ → ℕ → Type 0
Dead t x = (2 ≤ x) × ((records t ≤ x - 2) ⊎ (variable_at t (x - 2) ≡ 255))

pub dead_says : (t : List ℕ) (x : ℕ) → Says (dead t x) (Dead t x)
unfolding dead
dead_says t x = search says

pub names_says : (t : List ℕ) (x : ℕ) → Says (names_record t x) ((2 ≤ x) × (x - 2 < records t))
unfolding names_record
names_says t x = search says

-- ---- a flag b that says whether x names a record

module _ (t : List ℕ) (x : ℕ) {b : Bool} (flag : b ≡ names_record t x) where
  -- it does: which one, and that it lies in the table
  module _ (holds : b ≡ true) where
    pub from_two : 2 ≤ x
    from_two = ((names_says t x).yes (sym flag ∙ holds)).0

    pub number_small : x - 2 < records t
    number_small = ((names_says t x).yes (sym flag ∙ holds)).1

    pub number_inside : {i : ℕ} → i ≡ x - 2 → InTable t i
    number_inside e = omega (arith, number_small)

  -- it doesn't: a constant, or past the table
  pub not_inside : b ≡ false → 2 ≤ x → records t ≤ x - 2
  not_inside e h = either_side (x - 2) (records t) (λ l. absurd (refutes (names_says t x) (sym flag ∙ e) (h, l))) (λ l. l)

pub ruleset naming = (from_two, number_inside, rules)

-- ---- the ways out of `names_record` and of `is_dead`

module _ (t : List ℕ) (x : ℕ) where
  pub constant_names : x < 2 → false ≡ names_record t x
  unfolding names_record
  constant_names h = simp (lt-leb 2 x h)

  pub number_names : {n : ℕ} → 2 ≤ x → n ≡ records t → ltb (x - 2) n ≡ names_record t x
  unfolding names_record
  number_names h e = simp (le-leb 2 x h, e)

  pub record_dead : {b f : Bool} {i : ℕ} → b ≡ names_record t x → b ≡ true → i ≡ x - 2 → f ≡ is_free t i → f ≡ dead t x
  unfolding dead
  record_dead e h p q = simp (le-leb 2 x (from_two t x e h), lt-leb (records t) (x - 2) (number_small t x e h), ← p) q

  pub other_dead : {b c : Bool} → b ≡ names_record t x → b ≡ false → c ≡ ltb x 2 → not c ≡ dead t x
  unfolding dead
  other_dead e h q =
      either_side x 2
      (λ l. simp (q, lt-ltb x 2 l, lt-leb 2 x l))
      (λ l. simp (q, le-ltb x 2 l, le-leb 2 x l, le-leb (records t) (x - 2) (not_inside t x e h l)))
