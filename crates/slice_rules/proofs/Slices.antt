-- Laws of what specs/Slices.antt defines.
use Prim.Native.Nat.{ℕ, zero, suc, ◌+◌, ◌-◌, ◌≤◌, ◌<◌, zero-le, suc-le-suc}
use Rattle.std.specs.Prelude.{Bool, not, ◌&&◌, ◌⊎◌, ◌≡◌, length}
use Rattle.std.proofs.Math.Bool.{true, false, cond}
use mathlib.Core.List.{List, [], ◌∷◌, foldr}
use Rattle.std.proofs.Common.{inl, inr, ◌∙◌, add-zero, zero-add, suc-add, arith}
use Rattle.std.proofs.Math.Logic.{⊎_elim}
use Rattle.std.proofs.Math.Path.{refl, ap, sym}
use Rattle.std.proofs.lemmas.Bool.{not-true}
use Rattle.lists.specs.Apart.{apart}
use Rattle.lists.specs.Says.{Says, refutes}
use Rattle.lists.specs.Truth.{clash, and_left, and_right}
use Rattle.orders.specs.Permutation.{Permutation}
use Rattle.orders.specs.Exchange.{exchange}
use Rattle.plans.specs.Inversions.{left, Adjacent, left_same, left_exchange}
use Rattle.plans.specs.Plans.{Plan, Lawful, reached}
use Rattle.plans.proofs.Plans.{same_says, left_zero}
use Rattle.slice_rules.specs.Slices.{Relay, done, meets, fits, RelayLaws, join, arrived, next, goes, stepped, leaves, made, judge, slice}

module _ {State Way : Type 0} (R : Relay State Way) (plan : Plan) (target : List ℕ) where
  -- ---- one turn

  pub goes_on : (s : State) → goes R plan target s ≡ true → (arrived R plan target s ≡ false) × (fits R s (next R plan target s) ≡ true)
  unfolding goes
  goes_on s e = (
    not-true (arrived R plan target s) (and_left (not (arrived R plan target s)) (fits R s (next R plan target s)) e),
    and_right
        (not (arrived R plan target s)) (fits R s (next R plan target s)) e,
  )

  pub leaves_goes : (b : ℕ) (s : State) → goes R plan target s ≡ true → leaves R plan target (suc b) s ≡ leaves R plan target b (stepped R plan target s)
  unfolding leaves
  leaves_goes b s e = rw e

  pub made_goes : (b : ℕ) (s : State) → goes R plan target s ≡ true → made R plan target (suc b) s ≡ suc (made R plan target b (stepped R plan target s))
  unfolding made
  made_goes b s e = rw e

  pub leaves_rests : (b : ℕ) (s : State) → goes R plan target s ≡ false → leaves R plan target b s ≡ s
  unfolding leaves
  leaves_rests zero s e = refl
  leaves_rests (suc b) s e = rw e

  pub made_rests : (b : ℕ) (s : State) → goes R plan target s ≡ false → made R plan target b s ≡ 0
  unfolding made
  made_rests zero s e = refl
  made_rests (suc b) s e = rw e

  -- a fact of a budget, the state before, the swaps made and the state left: shown of no budget, of a state that stays, and of one swap more
  by_turns : (P : ℕ → State → ℕ → State → Type 0) → ((s : State) → P 0 s 0 s) → ((b : ℕ) (s : State) → goes R plan target s ≡ false → P (suc b) s 0 s)
      → ((b : ℕ) (s : State) (m : ℕ) (t : State) → goes R plan target s ≡ true → P b (stepped R plan target s) m t → P (suc b) s (suc m) t)
      → (b : ℕ) (s : State) → P b s (made R plan target b s) (leaves R plan target b s)
  unfolding leaves made
  by_turns P z r g zero s = z s
  by_turns P z r g (suc b) s = by (goes R plan target s) refl (by_turns P z r g b (stepped R plan target s))
    where
      by : (c : Bool) → goes R plan target s ≡ c
          → P b (stepped R plan target s) (made R plan target b (stepped R plan target s)) (leaves R plan target b (stepped R plan target s))
          → P (suc b) s (cond c (suc (made R plan target b (stepped R plan target s))) 0) (cond c (leaves R plan target b (stepped R plan target s)) s)
      by true e h = g b s (made R plan target b (stepped R plan target s)) (leaves R plan target b (stepped R plan target s)) e h
      by false e h = r b s e

  -- no more swaps than the budget
  pub made_small : (b : ℕ) (s : State) → made R plan target b s ≤ b
  made_small = by_turns (λ b s m t. m ≤ b) (λ s. zero-le) (λ b s e. zero-le) (λ b s m t e h. suc-le-suc h)

  -- the state left is the one after just as many swaps
  pub leaves_made : (b : ℕ) (s : State) → leaves R plan target b s ≡ leaves R plan target (made R plan target b s) s
  unfolding leaves
  leaves_made =
      by_turns (λ b s m t. t ≡ leaves R plan target m s) (λ s. refl) (λ b s e. refl) (λ b s m t e h. h ∙ sym (leaves_goes m s e))

  -- ---- slices add up

  pub adds : (a b : ℕ) (s : State)
      → (leaves R plan target (a + b) s ≡ leaves R plan target b (leaves R plan target a s)) × (made R plan target
      (a + b) s ≡ made R plan target a s + made R plan target b (leaves R plan target a s))
  adds a b s =
      by_turns (λ a s m t. (leaves R plan target (a + b) s ≡ leaves R plan target b t) × (made R plan target (a + b) s ≡ m + made R plan target b t))
      (λ s. (ap (λ n. leaves R plan target n s) (zero-add b), ap (λ n. made R plan target n s) (zero-add b) ∙ sym (zero-add (made R plan target b s))))
      (λ a s e. (leaves_rests (suc a + b) s e ∙ sym (leaves_rests b s e), omega (arith, made_rests (suc a + b) s e, made_rests b s e)))
      (λ a s m t e h. (
        ap (λ n. leaves R plan target n s) (suc-add a b) ∙ leaves_goes (a + b) s e ∙ h.0,
        ap (λ n. made R plan target n s) (suc-add a b) ∙ made_goes (a + b) s e ∙ ap suc h.1 ∙ sym (suc-add m (made R plan target b t)),
      ))
      a s

  -- two slices are one with the sum of their budgets
  pub slice_add : (a b : ℕ) (s : State) → join (slice R plan target a s) (slice R plan target b (slice R plan target a s).state) ≡ slice R plan target (a + b) s
  unfolding slice join
  slice_add a b s =
      let (p, q) = adds a b s in
      λ i. record { swaps = sym q i; state = sym p i; judgement = judge R plan target (sym p i); left = left (R.order (sym p i)) target }

  -- ---- what each answer says

  pub arrived_done : (s : State) → arrived R plan target s ≡ true → judge R plan target s ≡ done
  unfolding judge
  arrived_done s e = rw e

  pub meets_next : (s : State) → arrived R plan target s ≡ false → judge R plan target s ≡ meets (R.way s (next R plan target s))
  unfolding judge
  meets_next s e = rw e

  pub done_arrived : (s : State) → judge R plan target s ≡ done → arrived R plan target s ≡ true
  unfolding judge
  done_arrived s = by (arrived R plan target s)
    where
      by : (a : Bool) → cond a done (meets (R.way s (next R plan target s))) ≡ done → a ≡ true
      by true e = refl
      by false e = apart (cc)

  pub meets_only : (s : State) (w : Way) → judge R plan target s ≡ meets w → (arrived R plan target s ≡ false) × (w ≡ R.way s (next R plan target s))
  unfolding judge
  meets_only s w = by (arrived R plan target s)
    where
      by : (a : Bool) → cond a done (meets (R.way s (next R plan target s))) ≡ meets w → (a ≡ false) × (w ≡ R.way s (next R plan target s))
      by true e = apart (cc)
      by false e = (refl, (cc))

  -- where nothing stands in the way, the next planned swap is to be made
  pub goes_if : (s : State) → arrived R plan target s ≡ false → fits R s (next R plan target s) ≡ true → goes R plan target s ≡ true
  unfolding goes
  goes_if s a f = rw (a, f)

  -- each slice spends its whole budget or leaves a state with no swap to be made: it is done, or something stands in the way
  pub spends : (b : ℕ) (s : State) → (made R plan target b s ≡ b) ⊎ (goes R plan target (leaves R plan target b s) ≡ false)
  spends =
      by_turns (λ b s m t. (m ≡ b) ⊎ (goes R plan target t ≡ false)) (λ s. inl refl) (λ b s e. inr e) (λ b s m t e. ⊎_elim (λ q. inl (ap suc q)) (λ q. inr q))

  -- a paused slice has made exactly its budget of swaps
  pub paused_budget : (b : ℕ) (s : State) (w : Way) → judge R plan target (leaves R plan target b s) ≡ meets w → R.clear w ≡ true → made R plan target b s ≡ b
  paused_budget b s w e c =
      let (a, q) = meets_only (leaves R plan target b s) w e in
      ⊎_elim (λ m. m) (λ g. clash (goes_if (leaves R plan target b s) a (rw q at c)) g) (spends b s)

  -- what every planned swap keeps holds of every state on the way
  pub carried : (P : State → Type 0) → ((s : State) → P s → goes R plan target s ≡ true → P (stepped R plan target s)) → (b : ℕ) (s : State) → P s
      → P (leaves R plan target b s)
  carried P keeps = by_turns (λ b s m t. P s → P t) (λ s p. p) (λ b s e p. p) (λ b s m t e h p. h (keeps s p e))

  -- ---- a loop that runs a slice from s, with i swaps of its budget made, in state t

  pub record Slicing (s : State) (budget i : ℕ) (t : State) : Type 0 where
    pub within : i ≤ budget
    pub all_made : i ≡ made R plan target i s
    pub so_far : t ≡ leaves R plan target i s

  -- the slice has been run
  pub record Sliced (s : State) (budget i : ℕ) (t : State) : Type 0 where
    pub swaps_made : i ≡ made R plan target budget s
    pub state_left : t ≡ leaves R plan target budget s

  pub slicing_begins : {s : State} {budget : ℕ} → Slicing s budget 0 s
  unfolding leaves made
  slicing_begins = record { within = zero-le; all_made = refl; so_far = refl }

  pub slicing_goes : {s t t' : State} {budget i : ℕ} → Slicing s budget i t → i < budget → goes R plan target t ≡ true → t' ≡ stepped R plan target t
      → Slicing s budget (i + 1) t'
  unfolding leaves made
  slicing_goes {s} {t} {t'} {budget} {i} h l e q =
      let g : goes R plan target (leaves R plan target i s) ≡ true = rw h.so_far at e in
      let (p, m) = adds i 1 s in
      record {
        within = omega arith;
        all_made = omega (arith, m, made_goes 0 (leaves R plan target i s) g, h.all_made);
        so_far = q ∙ ap (stepped R plan target) h.so_far ∙ sym (p ∙ leaves_goes 0 (leaves R plan target i s) g);
      }

  pub slicing_rests : {s t : State} {budget i : ℕ} → Slicing s budget i t → goes R plan target t ≡ false → Sliced s budget i t
  slicing_rests {s} {t} {budget} {i} h e =
      let g : goes R plan target (leaves R plan target i s) ≡ false = rw h.so_far at e in
      let b : i + (budget - i) ≡ budget = omega (arith, h.within) in
      let (p, m) = adds i (budget - i) s in
      record {
        swaps_made = omega (arith, ap (λ n. made R plan target n s) b, m, made_rests (budget - i) (leaves R plan target i s) g, h.all_made);
        state_left = h.so_far ∙ sym (leaves_rests (budget - i) (leaves R plan target i s) g) ∙ sym p ∙ ap (λ n. leaves R plan target n s) b;
      }

  pub slicing_ends : {s t : State} {budget i : ℕ} → Slicing s budget i t → budget ≤ i → Sliced s budget i t
  slicing_ends {s} {t} {budget} {i} h l =
      let b : i ≡ budget = omega (arith, h.within) in
      record { swaps_made = h.all_made ∙ ap (λ n. made R plan target n s) b; state_left = h.so_far ∙ ap (λ n. leaves R plan target n s) b }

  -- ---- the plan's orders are followed, and the fall in left is the number of swaps

  module _ (Good : State → Type 0) (laws : RelayLaws R (length target) Good) (lawful : Lawful plan) (permuted : Permutation target) where
    pub arrived_says : (s : State) → Good s → Says (arrived R plan target s) (R.order s ≡ target)
    unfolding arrived
    arrived_says s g = same_says (R.order s) target (laws.long s g)

    -- where the order isn't the target, the next planned swap is one of an adjacent inverted pair
    pub next_inversion : (s : State) → Good s → arrived R plan target s ≡ false → Adjacent (R.order s) target (next R plan target s)
    unfolding next
    next_inversion s g e = lawful.names_inversion (R.order s) target (laws.permutation s g) permuted (laws.long s g) (refutes (arrived_says s g) e)

    pub planned_inversion : (s : State) → Good s → goes R plan target s ≡ true → Adjacent (R.order s) target (next R plan target s)
    planned_inversion s g e = next_inversion s g (goes_on s e).0

    pub planned_fits : (s : State) → Good s → goes R plan target s ≡ true
        → (next R plan target s + 1 < length target) × (fits R s (next R plan target s) ≡ true)
    planned_fits s g e = (rw (laws.long s g) at (planned_inversion s g e).within, (goes_on s e).1)

    pub good_stepped : (s : State) → Good s → goes R plan target s ≡ true → Good (stepped R plan target s)
    good_stepped s g e = let (i, f) = planned_fits s g e in laws.good_swapped s (next R plan target s) g i f

    order_stepped : (s : State) → Good s → goes R plan target s ≡ true → R.order (stepped R plan target s) ≡ exchange (R.order s) (next R plan target s)
    order_stepped s g e = let (i, f) = planned_fits s g e in laws.order_swapped s (next R plan target s) g i f

    pub good_after : (b : ℕ) (s : State) → Good s → Good (leaves R plan target b s)
    good_after = carried Good good_stepped

    -- every order on the way is a permutation
    pub permutation_after : (b : ℕ) (s : State) → Good s → Permutation (R.order (leaves R plan target b s))
    permutation_after b s g = laws.permutation (leaves R plan target b s) (good_after b s g)

    -- after that many swaps the order is the one that the plan has reached by then
    pub planned : (b : ℕ) (s : State) → Good s → R.order (leaves R plan target b s) ≡ reached plan target (made R plan target b s) (R.order s)
    unfolding reached next
    planned = by_turns (λ b s m t. Good s → R.order t ≡ reached plan target m (R.order s)) (λ s g. refl) (λ b s e g. refl)
        (λ b s m t e h g. h (good_stepped s g e) ∙ ap (reached plan target m) (order_stepped s g e))

    pub fall : (b : ℕ) (s : State) → Good s → left (R.order (leaves R plan target b s)) target + made R plan target b s ≡ left (R.order s) target
    fall = by_turns (λ b s m t. Good s → left (R.order t) target + m ≡ left (R.order s) target) (λ s g. omega arith) (λ b s e g. omega arith)
        (λ b s m t e h g.
        let falls = left_exchange (R.order s) target (next R plan target s) (laws.permutation s g) (planned_inversion s g e) in
        omega (arith, h (good_stepped s g e), ap (λ o. left o target) (order_stepped s g e), falls))

    -- a slice that is done has made as many swaps as there were inversions
    pub done_all : (b : ℕ) (s : State) → Good s → judge R plan target (leaves R plan target b s) ≡ done → made R plan target b s ≡ left (R.order s) target
    done_all b s g e =
        let q : R.order (leaves R plan target b s) ≡ target =
        (arrived_says (leaves R plan target b s) (good_after b s g)).yes (done_arrived (leaves R plan target b s) e) in
        omega (arith, fall b s g, ap (λ o. left o target) q, left_same target)

    -- with a budget of at least left a slice makes every swap that is to be made
    pub enough : (b : ℕ) (s : State) → Good s → left (R.order s) target ≤ b → goes R plan target (leaves R plan target b s) ≡ false
    unfolding goes
    enough b s g l = ⊎_elim (λ q. rw ((arrived_says (leaves R plan target b s) (good_after b s g)).no (all q))) (λ w. w) (spends b s)
      where
        all : made R plan target b s ≡ b → R.order (leaves R plan target b s) ≡ target
        all q =
            left_zero lawful (R.order (leaves R plan target b s)) target (permutation_after b s g) permuted
            (laws.long (leaves R plan target b s) (good_after b s g)) (omega (arith, fall b s g))
