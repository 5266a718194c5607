-- Case I of the bench sheet, over orders alone: 64 variables, the most there are, take 2,016 swaps reversed, by every plan.
use Rattle.std.specs.Prelude.{ℕ, ◌-◌, ◌≤◌, ◌<◌, Bool, true, false, not, ◌&&◌, List, ◌≡◌, refl, length}
use Rattle.std.proofs.Common.{sym, ◌∙◌, arith}
use Rattle.lists.specs.First.{first}
use Rattle.lists.specs.Count.{count}
use Rattle.lists.specs.Total.{total, pairs}
use Rattle.lists.specs.Tabulate.{tabulate, length_tabulate, get_d_tabulate}
use Rattle.orders.specs.Permutation.{ceiling, Permutation, level_of, holds_at}
use Rattle.orders.specs.Exchange.{exchange, length_exchange, exchange_permutation}
use Rattle.plans.specs.Inversions.{left, inverted}
use Rattle.plans.specs.Plans.{Plan, Lawful}
use Rattle.plans.specs.Numbered.{plan_of}
use Rattle.plans.proofs.NumberedLaws.{plan_of_lawful}
use Rattle.slice_rules.specs.Slices.{Relay, RelayLaws, goes, made, leaves}
use Rattle.slice_rules.proofs.Slices.{arrived_done, enough, done_all}

-- an order alone, where nothing stands in the way of a swap
abbrev pub order_alone : Relay (List ℕ) Bool
order_alone = record { order = λ o. o; way = λ o k. true; clear = λ w. w; swapped = exchange }

abbrev rising : List ℕ
rising = tabulate ceiling (λ k. k)

abbrev falling : List ℕ
falling = tabulate ceiling (λ k. ceiling - 1 - k)

i_left : left rising falling ≡ 2016
unfolding tabulate left inverted pairs total count level_of holds_at first
i_left = refl

-- ---- with any budget that is enough

tabulated : (n : ℕ) (f : ℕ → ℕ) → ((k : ℕ) → k < n → f k < n) → ((j k : ℕ) → j < k → k < n → f j ≡ f k → ⊥) → Permutation (tabulate n f)
tabulated n f small distinct = record {
  in_range = λ k l. let m : k < n = rw (length_tabulate n f) at l in rw (length_tabulate n f, get_d_tabulate n f k 0 m) (small k m);
  distinct = λ j k l m e.
      let b : k < n = rw (length_tabulate n f) at m in
      distinct j k l b (sym (get_d_tabulate n f j 0 (omega arith)) ∙ e ∙ get_d_tabulate n f k 0 b);
}

laws : (n : ℕ) → RelayLaws order_alone n (λ o. Permutation o × (length o ≡ n))
laws n = record {
  permutation = λ o w. w.0;
  long = λ o w. w.1;
  good_swapped = λ o k w l f. (exchange_permutation o k w.0 (rw w.1 l), length_exchange o k ∙ w.1);
  order_swapped = λ o k w l f. refl;
}

i_by_all : (number b : ℕ) → 2016 ≤ b → made order_alone (plan_of number) falling b rising ≡ 2016
unfolding goes
i_by_all number b l =
    let plan : Plan = plan_of number in
    let R = laws (length falling) in
    let w : Lawful plan = plan_of_lawful number in
    let g : Permutation falling = tabulated ceiling (λ k. ceiling - 1 - k) (λ k m. omega arith) (λ j k m n e. omega arith) in
    let o : Permutation rising = tabulated ceiling (λ k. k) (λ k m. m) (λ j k m n e. omega arith) in
    let long : length rising ≡ length falling = length_tabulate ceiling (λ k. k) ∙ sym (length_tabulate ceiling (λ k. ceiling - 1 - k)) in
    let good : Permutation rising × (length rising ≡ length falling) = (o, long) in
    let still = enough order_alone plan falling _ R w g b rising good (rw i_left l) in
    let there = arrived_done order_alone plan falling (leaves order_alone plan falling b rising) (by_and _ still) in
    done_all order_alone plan falling _ R w g b rising good there ∙ i_left
  where
    by_and : (a : Bool) → (not a && true) ≡ false → a ≡ true
    by_and true e = refl
    by_and false e = sym e
