-- The laws of one store, and of a row of them.
use Prim.Native.Nat.{ℕ, zero, suc, ◌+◌, ◌-◌, ◌≤◌, ◌<◌}
use mathlib.Core.List.{List, [], ◌∷◌, ◌++◌}
use mathlib.Core.Path.{◌≡◌, refl, ap, sym, ◌∙◌}
use native.Mathlib.Numerals.{add-one}
use native.Mathlib.Omega.{arith}
use lib.ListN.{length, get_or, set, take}
use lib.Seq.{take-suc, take_all, length-take-le}
use borrow.Author.Rules.{rules}
use Rattle.undo.specs.Stores.{poke, pokes, run, run_append}
use Rattle.undo.specs.Wrote.{Wrote, wrote_none, wrote_more, wrote_as}

pub store_none : {f i v : ℕ} {l : List ℕ} → f ≤ 0 → Wrote f (poke i v ∷ []) l l f
unfolding pokes
store_none {f = zero} h = record { bytes = refl; left = refl }
store_none {f = suc f} h = absurd (omega arith)

pub store_made : {f i v : ℕ} {l : List ℕ} → 0 < f → Wrote f (poke i v ∷ []) l (set l i v) (f - 1)
unfolding pokes
store_made {f = zero} h = absurd (omega arith)
store_made {f = suc f} {i = i} {v = v} {l = l} h = record { bytes = sym (go f); left = refl }
  where
    go : (f : ℕ) → pokes (poke i v ∷ take f []) l ≡ set l i v
    go zero = refl
    go (suc f) = refl

pub ruleset stores = (store_none, store_made, rules)

-- ---- a row of bytes, j of them written
pub row_begins : {f : ℕ} {l : List ℕ} (at : ℕ) → Wrote f (run at []) l l f
unfolding run
row_begins at = wrote_none

module _ {f : ℕ} {l : List ℕ} (at : ℕ) (src : List ℕ) where
  pub row_goes : {r r' : ℕ} {m l' : List ℕ} (j : ℕ) → Wrote f (run at (take j src)) l m r → j < length src
      → Wrote r (poke (at + j) (get_or src j 0) ∷ []) m l' r' → Wrote f (run at (take (j + 1) src)) l l' r'
  unfolding run
  row_goes j w h s = wrote_as (wrote_more w s) (sym next)
    where
      next : run at (take (j + 1) src) ≡ run at (take j src) ++ (poke (at + j) (get_or src j 0) ∷ [])
      next =
          ap (λ n. run at (take n src)) (add-one j)
          ∙ ap (run at) (take-suc src j 0 h)
          ∙ run_append at (take j src) (get_or src j 0 ∷ [])
          ∙ ap (λ n. run at (take j src) ++ (poke (at + n) (get_or src j 0) ∷ [])) (length-take-le j src (omega arith))

  pub row_ends : {r : ℕ} {l' : List ℕ} (j : ℕ) → Wrote f (run at (take j src)) l l' r → length src ≤ j → Wrote f (run at src) l l' r
  row_ends j w e = wrote_as w (ap (run at) (take_all j src e))

pub ruleset row = (row_begins, row_goes, row_ends, rules)
