-- Entries in buckets, each bucket chained from its newest entry back. An entry stands in head and link as its number plus 1, so that 0 is none.
use Prim.Native.Nat.{ℕ, zero, suc, ◌+◌, ◌≤◌, ◌<◌, zero-le}
use Rattle.std.specs.Prelude.{Bool, List, Option, Some, None, ◌≡◌, length, get_or, set, replicate}
use Rattle.std.proofs.Math.Bool.{true, false, cond}
use Rattle.std.proofs.Math.Path.{refl}
use Rattle.std.proofs.Common.{ap, sym, ◌∙◌, ⊎_elim, add-one, rules, length-set, get_or-set_same, get_or-set_other}
use Rattle.std.proofs.Math.Nat.{not-suc-le-zero}
use native.Mathlib.Omega.{arith}
use borrow.Author.Tests.{eqb-true, eqb-false, eq-eqb, ne_eqb}
use Rattle.std.proofs.Math.Dec.{eqb}
use Rattle.std.proofs.lemmas.List.{length-replicate, get_or-replicate}
use Rattle.lists.specs.Says.{decided, either_side, says_eqb}
use Rattle.chains.specs.Mixed.{buckets}

-- the entry that a number in the lists stands for, and the number
abbrev pub entry_in : ℕ → Option ℕ
entry_in zero = None
entry_in (suc e) = Some e

abbrev pub standing : Option ℕ → ℕ
standing None = zero
standing (Some e) = suc e

pub standing_in : (x : ℕ) → standing (entry_in x) ≡ x
standing_in zero = refl
standing_in (suc e) = refl

-- the newest of the entries below n that lie in bucket b, plus 1; 0 where none does. The bucket of an entry is any function of its number
unfoldable pub newest : (ℕ → ℕ) → ℕ → ℕ → ℕ
newest bucket b zero = zero
newest bucket b (suc n) = cond (eqb (bucket n) b) (suc n) (newest bucket b n)

-- head has each bucket's newest entry, and link the one before each entry in its bucket; there are n entries, and places for size of them
pub record Chained (bucket : ℕ → ℕ) (size n : ℕ) (head link : List ℕ) : Type 0 where
  pub all_buckets : length head ≡ buckets + 1
  pub all_places : length link ≡ size
  pub within : n ≤ size
  pub heads : (b : ℕ) → b < length head → get_or head b 0 ≡ newest bucket b n
  pub links : (e : ℕ) → e < n → get_or link e 0 ≡ newest bucket (bucket e) e

module _ (bucket : ℕ → ℕ) where
  newest_here : (b n : ℕ) → bucket n ≡ b → newest bucket b (n + 1) ≡ n + 1
  unfolding newest
  newest_here b n e = rw (add-one, eq-eqb (bucket n) b e)

  newest_there : (b n : ℕ) → (bucket n ≡ b → ⊥) → newest bucket b (n + 1) ≡ newest bucket b n
  unfolding newest
  newest_there b n d = rw (add-one, ne_eqb (bucket n) b d)

  pub newest_within : (b n : ℕ) → newest bucket b n ≤ n
  unfolding newest
  newest_within b zero = zero-le
  newest_within b (suc n) = go (eqb (bucket n) b) (newest_within b n)
    where
      go : (u : Bool) → newest bucket b n ≤ n → cond u (suc n) (newest bucket b n) ≤ suc n
      go true h = omega arith
      go false h = omega arith

  -- it lies in the bucket
  pub newest_lies : (b n j : ℕ) → newest bucket b n ≡ suc j → bucket j ≡ b
  unfolding newest
  newest_lies b zero j e = absurd (omega arith)
  newest_lies b (suc n) j e = go (eqb (bucket n) b) refl e (newest_lies b n j)
    where
      go : (u : Bool) → eqb (bucket n) b ≡ u → cond u (suc n) (newest bucket b n) ≡ suc j
          → (newest bucket b n ≡ suc j → bucket j ≡ b) → bucket j ≡ b
      go true t q h = let z : n ≡ j = omega arith in rw z at (eqb-true (bucket n) b t)
      go false t q h = h q

  -- and none after it does
  pub newest_passed : (b n j : ℕ) → newest bucket b n ≤ j → j < n → bucket j ≡ b → ⊥
  unfolding newest
  newest_passed b zero j h l e = not-suc-le-zero l
  newest_passed b (suc n) j h l e = go (eqb (bucket n) b) refl h (λ q m. newest_passed b n j q m e)
    where
      go : (u : Bool) → eqb (bucket n) b ≡ u → cond u (suc n) (newest bucket b n) ≤ j → (newest bucket b n ≤ j → j < n → ⊥) → ⊥
      go true t q h = omega arith
      go false t q h = either_side j n (h q) (λ m. let z : j ≡ n = omega arith in eqb-false (bucket n) b t (rw z at e))

-- ---- entries that are added

-- no entry yet; link may hold anything
pub chained_none : {bucket : ℕ → ℕ} {size : ℕ} {head link : List ℕ} → head ≡ replicate (buckets + 1) 0 → length link ≡ size
    → Chained bucket size 0 head link
unfolding newest
chained_none {bucket} {size} {head} e h = record {
  all_buckets = long;
  all_places = h;
  within = zero-le;
  heads = λ b l. rw e (get_or-replicate {A = ℕ} (buckets + 1) b 0 0 (rw long at l));
  links = λ k l. absurd (not-suc-le-zero l);
}
  where
    long : length head ≡ buckets + 1
    long = ap length e ∙ length-replicate {A = ℕ} (buckets + 1) 0

-- entry e goes to the front of bucket b
pub record Added (head link : List ℕ) (b e : ℕ) (head' link' : List ℕ) : Type 0 where
  pub before : link' ≡ set link e (get_or head b 0)
  pub newest_now : head' ≡ set head b (e + 1)
  pub a_bucket : b < length head
  pub a_place : e < length link

module _ {head link : List ℕ} {b e : ℕ} {head' link' : List ℕ} (a : Added head link b e head' link') where
  added_heads : length head' ≡ length head
  added_heads = ap length a.newest_now ∙ length-set head b (e + 1)

  added_links : length link' ≡ length link
  added_links = ap length a.before ∙ length-set link e (get_or head b 0)

pub chained_more : {bucket : ℕ → ℕ} {size n : ℕ} {head link : List ℕ} {b : ℕ} {head' link' : List ℕ}
    → Added head link b n head' link' → Chained bucket size n head link → b ≡ bucket n → Chained bucket size (n + 1) head' link'
chained_more {bucket} {size} {n} {head} {link} {b} {head'} {link'} added c e = record {
  all_buckets = added_heads added ∙ c.all_buckets;
  all_places = added_links added ∙ c.all_places;
  within = omega (arith, added.a_place, c.all_places);
  heads = new_heads;
  links = new_links;
}
  where
    new_heads : (a : ℕ) → a < length head' → get_or head' a 0 ≡ newest bucket a (n + 1)
    new_heads a k =
        ⊎_elim
        (λ z. rw (added.newest_now, ← z, get_or-set_same head b (n + 1) 0 added.a_bucket) (sym (newest_here bucket b n (sym e))))
        (λ d. rw (added.newest_now, get_or-set_other head b a (n + 1) 0 (λ z. d (sym z)), newest_there bucket a n (λ z. d (e ∙ z)))
        (c.heads a (rw (added_heads added) at k)))
        (decided (says_eqb b a))

    new_links : (k : ℕ) → k < n + 1 → get_or link' k 0 ≡ newest bucket (bucket k) k
    new_links k m =
        either_side k n
        (λ o. rw (added.before, get_or-set_other link n k (get_or head b 0) 0 (λ z. omega arith)) (c.links k o))
        (λ o. let z : k ≡ n = omega arith in
        rw (z, added.before, get_or-set_same link n (get_or head b 0) 0 added.a_place, ← e) (c.heads b added.a_bucket))

-- only the buckets of the entries that are there count: a list of keys may grow with its entries
newest_agrees : (f g : ℕ → ℕ) (b n : ℕ) → ((e : ℕ) → e < n → f e ≡ g e) → newest f b n ≡ newest g b n
unfolding newest
newest_agrees f g b zero h = refl
newest_agrees f g b (suc n) h = rw (h n (omega arith), newest_agrees f g b n (λ e l. h e (omega arith)))

pub chained_agrees : (f g : ℕ → ℕ) {size n : ℕ} {head link : List ℕ} → ((e : ℕ) → e < n → f e ≡ g e) → Chained f size n head link
    → Chained g size n head link
chained_agrees f g {size} {n} h c = record {
  all_buckets = c.all_buckets;
  all_places = c.all_places;
  within = c.within;
  heads = λ b l. c.heads b l ∙ newest_agrees f g b n h;
  links = λ e l. c.links e l ∙ ap (λ b. newest f b e) (h e l) ∙ newest_agrees f g (g e) e (λ k m. h k (omega arith));
}

-- `search chaining` answers the needs of a function that makes the chains
pub ruleset chaining = (chained_none, chained_more, rules)
