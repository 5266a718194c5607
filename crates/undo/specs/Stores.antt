-- The lent buffers, and the stores in them: one byte at a time, each after the one before. Supply may be lost between any two.
-- docs/RULES.md, 7.
use Rattle.std.specs.Prelude.{ℕ, zero, suc, ◌+◌, ◌-◌, List, [], ◌∷◌, ◌++◌, map, ◌≡◌, refl, length, set, take}
use Rattle.std.proofs.Common.{ap, ◌∙◌, arith}
use Rattle.std.proofs.Math.Nat.{sub-zero}
use Rattle.std.proofs.Math.Seq.{take-nil}

pub data Buffer : Type 0 where
  in_table : Buffer
  in_order : Buffer
  in_log : Buffer

pub record State : Type 0 where
  pub table : List ℕ
  pub order : List ℕ
  pub log : List ℕ

abbrev pub state : List ℕ → List ℕ → List ℕ → State
state t o log = record { table = t; order = o; log = log }

-- a store: the buffer, the index, the byte; and a store in a buffer that is known
pub data Store : Type 0 where
  store : Buffer → ℕ → ℕ → Store

pub data Poke : Type 0 where
  poke : ℕ → ℕ → Poke

-- ---- one buffer

unfoldable pub pokes : List Poke → List ℕ → List ℕ
pokes [] l = l
pokes (poke i v ∷ ps) l = pokes ps (set l i v)

-- these bytes from an index on
unfoldable pub run : ℕ → List ℕ → List Poke
run at [] = []
run at (v ∷ vs) = poke at v ∷ run (suc at) vs

-- ---- the state

abbrev pub buffer_of : Buffer → State → List ℕ
buffer_of in_table s = s.table
buffer_of in_order s = s.order
buffer_of in_log s = s.log

abbrev pub held : Buffer → List ℕ → State → State
held in_table l s = record { table = l; order = s.order; log = s.log }
held in_order l s = record { table = s.table; order = l; log = s.log }
held in_log l s = record { table = s.table; order = s.order; log = l }

abbrev pub store_in : Buffer → Poke → Store
store_in b (poke i v) = store b i v

abbrev pub into : Buffer → List Poke → List Store
into b ps = map (store_in b) ps

unfoldable pub put : State → Store → State
put s (store b i v) = held b (set (buffer_of b s) i v) s

unfoldable pub puts : List Store → State → State
puts [] s = s
puts (a ∷ l) s = puts l (put s a)

-- ---- some of them, and then the others

module _ {A : Type 0} where
  pub take_append : (f : ℕ) (a b : List A) → take f (a ++ b) ≡ take f a ++ take (f - length a) b
  take_append f [] b = rw (take-nil {A = A} f, sub-zero f)
  take_append zero (x ∷ a) b = rw (zero_less (suc (length a)))
    where
      zero_less : (n : ℕ) → 0 - n ≡ 0
      zero_less n = omega arith
  take_append (suc f) (x ∷ a) b = ap (λ (l : List A). x ∷ l) (take_append f a b ∙ ap (λ n. take f a ++ take n b) (less f (length a)))
    where
      less : (m n : ℕ) → m - n ≡ suc m - suc n
      less m n = omega arith

pub take_map : {A B : Type 0} (g : A → B) (f : ℕ) (l : List A) → take f (map g l) ≡ map g (take f l)
take_map g zero l = refl
take_map g (suc f) [] = refl
take_map {A} {B} g (suc f) (x ∷ l) = ap (λ (r : List B). g x ∷ r) (take_map g f l)

pub puts_append : (a b : List Store) (s : State) → puts (a ++ b) s ≡ puts b (puts a s)
unfolding puts
puts_append [] b s = refl
puts_append (x ∷ a) b s = puts_append a b (put s x)

pub pokes_append : (a b : List Poke) (l : List ℕ) → pokes (a ++ b) l ≡ pokes b (pokes a l)
unfolding pokes
pokes_append [] b l = refl
pokes_append (poke i v ∷ a) b l = pokes_append a b (set l i v)

-- the first f of two rows of stores
pub puts_both : (f : ℕ) (a b : List Store) (s : State) → puts (take f (a ++ b)) s ≡ puts (take (f - length a) b) (puts (take f a) s)
puts_both f a b s = ap (λ (l : List Store). puts l s) (take_append f a b) ∙ puts_append (take f a) (take (f - length a) b) s

pub pokes_both : (f : ℕ) (a b : List Poke) (l : List ℕ) → pokes (take f (a ++ b)) l ≡ pokes (take (f - length a) b) (pokes (take f a) l)
pokes_both f a b l = ap (λ (x : List Poke). pokes x l) (take_append f a b) ∙ pokes_append (take f a) (take (f - length a) b) l

-- stores in one buffer
pub puts_into : (b : Buffer) (ps : List Poke) (s : State) → puts (into b ps) s ≡ held b (pokes ps (buffer_of b s)) s
unfolding puts pokes put
puts_into in_table [] s = refl
puts_into in_order [] s = refl
puts_into in_log [] s = refl
puts_into in_table (poke i v ∷ ps) s = puts_into in_table ps _
puts_into in_order (poke i v ∷ ps) s = puts_into in_order ps _
puts_into in_log (poke i v ∷ ps) s = puts_into in_log ps _

pub cut_into : (b : Buffer) (f : ℕ) (ps : List Poke) (s : State) → puts (take f (into b ps)) s ≡ held b (pokes (take f ps) (buffer_of b s)) s
cut_into b f ps s = ap (λ (l : List Store). puts l s) (take_map (store_in b) f ps) ∙ puts_into b (take f ps) s

-- ---- a row of bytes

pub length_run : (at : ℕ) (vs : List ℕ) → length (run at vs) ≡ length vs
unfolding run
length_run at [] = refl
length_run at (v ∷ vs) = ap suc (length_run (suc at) vs)

pub run_append : (at : ℕ) (a b : List ℕ) → run at (a ++ b) ≡ run at a ++ run (at + length a) b
unfolding run
run_append at [] b = ap (λ i. run i b) (zero_more at)
  where
    zero_more : (n : ℕ) → n ≡ n + 0
    zero_more n = omega arith
run_append at (v ∷ a) b = ap (λ (l : List Poke). poke at v ∷ l) (run_append (suc at) a b ∙ ap (λ i. run (suc at) a ++ run i b) (one_more at (length a)))
  where
    one_more : (m n : ℕ) → suc m + n ≡ m + suc n
    one_more m n = omega arith

pub take_run : (f at : ℕ) (vs : List ℕ) → take f (run at vs) ≡ run at (take f vs)
unfolding run
take_run zero at vs = refl
take_run (suc f) at [] = refl
take_run (suc f) at (v ∷ vs) = ap (λ (l : List Poke). poke at v ∷ l) (take_run f (suc at) vs)
