-- The reckoning of a swap: its lists hold what the definition speaks of.
use Rattle.std.specs.Prelude.{ℕ, ◌+◌, ◌*◌, ◌≤◌, ◌<◌, false, ◌≡◌, refl, get_or}
use mathlib.Core.List.{List, [], ◌∷◌, ◌++◌}
use Rattle.std.proofs.Math.Path.{ap, ap₂, sym}
use Rattle.std.proofs.Common.{◌∙◌, not-suc-le-zero, arith, length-append}
use Rattle.std.proofs.lemmas.List.{get_or_at}
use Rattle.std.proofs.Math.ListN.{length, get_or-append}
use Rattle.lists.specs.Says.{either_side}
use Rattle.lists.specs.Total.{count_agrees}
use Rattle.lists.specs.Which.{which_length}
use Rattle.diagrams.specs.Edition.{plain}
use Rattle.diagrams.specs.Layout.{most_records, records, is_free, InTable}
use Rattle.diagrams.specs.Node.{Node, node, at, ref}
use Rattle.diagrams.specs.Decode.{decode}
use Rattle.swap_rules.specs.Swap.{asked, needed, free_count}
use Rattle.swap_records.specs.Grands.{Grands}
use Rattle.swap_records.specs.Listed.{CrossingListed, StandingListed, FreeListed, Splits, Inside, inside_of, in_use, entry_inside, entry_used, entries_few}
use Rattle.swap_records.specs.Kinds as kinds
use Rattle.swap_records.specs.Children.{children, children_at, with_variable, nodes_of, length_nodes}
use Rattle.swap_records.specs.declared.children.Children.{Children}
use Rattle.swap_records.specs.declared.Grandchildren.{Grandchildren}
use Rattle.swap_records.specs.declared.Pair.{Pair}
use Rattle.swap_names.specs.Slots.{slots_inside}
use Rattle.swap_reckoning.specs.Asked.{crossings, news_in, becomes_in, news_after, settled_in, noted, low_noted, both_noted}
use Rattle.swap_reckoning.specs.Asked.{low_settled, high_settled, crossed_node, news_none, news_all, news_next, becomes_then}
use Rattle.swap_reckoning.specs.Searching.{Searchable, Noted}
use Rattle.swap_reckoning.specs.Noting.{pair_noted, settled_in_lem}
use Rattle.swap_reckoning.specs.Work.{with_turns, AllSlots}
use Rattle.swap_reckoning.specs.declared.Work.{Work}

-- where X(a, b) is looked for: the standing records, and the slots for new ones
pub record Sources (t : List ℕ) (p : Pair) (standing slots : List ℕ) : Type 0 where
  pub few : records t ≤ most_records
  pub standing_are : StandingListed t p standing
  pub slots_in_lem : Inside t slots

-- and the crossing records, which ask
pub record Ready (t : List ℕ) (p : Pair) (crossing standing slots : List ℕ) : Type 0 where
  pub sources : Sources t p standing slots
  pub crossing_are : CrossingListed t p crossing

-- the used record i asks, and there is room for two new records
pub record Asks (t : List ℕ) (p : Pair) (standing slots : List ℕ) (news : List Children) (i : ℕ) : Type 0 where
  pub sources : Sources t p standing slots
  pub room : length news + 2 ≤ 2 * most_records
  pub inside : InTable t i
  pub used : is_free t i ≡ false

-- it asked for its low, then for its high: both are settled, and noted among the new records so far
pub record Answered (t : List ℕ) (p : Pair) (into : List ℕ) (i : ℕ) (news news' : List Children) (c : Children) : Type 0 where
  pub noted : nodes_of p.x.0 news' ≡ both_noted t p.x.0 p.y.0 (nodes_of p.x.0 news) i
  pub settled : with_variable p.y.0 c ≡ crossed_node t p.x.0 p.y.0 into (nodes_of p.x.0 news) i
  pub few : length news' ≤ length news + 2

-- the first k crossing records have had their turn: each of the k becomes a y record with the two references kept for it
pub record Turns (t : List ℕ) (p : Pair) (into crossing : List ℕ) (news kept : List Children) (k : ℕ) : Type 0 where
  pub few : length news ≤ 2 * k
  pub kept_long : length kept ≡ k
  pub news_are : nodes_of p.x.0 news ≡ news_after t p.x.0 p.y.0 k
  pub kept_are : (j : ℕ) → j < k → with_variable p.y.0 (children_at kept j) ≡ becomes_in t p.x.0 p.y.0 into (ref (get_or crossing j 0))

-- it is the turn of crossing record k
pub record Turn (t : List ℕ) (p : Pair) (crossing standing slots : List ℕ) (news kept : List Children) (k : ℕ) : Type 0 where
  pub ready : Ready t p crossing standing slots
  pub so_far : Turns t p slots crossing news kept k
  pub next : k < length crossing

-- the lists of the records are filled, and nobody has asked
pub record Sorted (t : List ℕ) (p : Pair) (w : Work) : Type 0 where
  pub ready : Ready t p w.crossing w.standing w.slots
  pub news_none : w.news ≡ []
  pub kept_none : w.kept ≡ []

-- all have had their turn: the new records are the swap's
pub record Reckoned (t : List ℕ) (p : Pair) (w : Work) : Type 0 where
  pub crossing_are : CrossingListed t p w.crossing
  pub kept_long : length w.kept ≡ length w.crossing
  pub news_are : nodes_of p.x.0 w.news ≡ news_in t p.x.0 p.y.0
  pub kept_are : (j : ℕ) → j < length w.crossing → with_variable p.y.0 (children_at w.kept j) ≡ becomes_in t p.x.0 p.y.0 w.slots (ref (get_or w.crossing j 0))

-- ---- one record asks

module _ {t : List ℕ} {p : Pair} {standing slots : List ℕ} {news : List Children} {i : ℕ} (A : Asks t p standing slots news i) where
  abbrev x : ℕ
  x = p.x.0

  abbrev y : ℕ
  y = p.y.0

  pub asks_low : Searchable t standing slots news
  asks_low = record {
    few = A.sources.few;
    standing_in = inside_of A.sources.standing_are;
    slots_in_lem = A.sources.slots_in_lem;
    room = omega (arith, A.room);
  }

  module _ {news₁ : List Children} {low : ℕ} where
    pub asks_high : {a b : ℕ} → Noted t standing slots news a b news₁ low → Searchable t standing slots news₁
    asks_high L = record {
      few = A.sources.few;
      standing_in = inside_of A.sources.standing_are;
      slots_in_lem = A.sources.slots_in_lem;
      room = omega (arith, A.room, L.few);
    }

    module _ {g : Grandchildren} (G : Grands t y i g) (L : Noted t standing slots news g.f00.0 g.f10.0 news₁ low)
        {news₂ : List Children} {high : ℕ} (H : Noted t standing slots news₁ g.f01.0 g.f11.0 news₂ high) where
      low_noted_lem : nodes_of x news₁ ≡ low_noted t x y (nodes_of x news) i
      unfolding asked
      low_noted_lem =
          ap (nodes_of x) L.noted ∙ pair_noted t x y A.sources.standing_are _ _ news
          ∙ ap₂ (λ a b. noted t x y (nodes_of x news) (node x a b)) G.is00 G.is10

      both_noted_lem : nodes_of x news₂ ≡ both_noted t x y (nodes_of x news) i
      unfolding asked
      both_noted_lem =
          ap (nodes_of x) H.noted ∙ pair_noted t x y A.sources.standing_are _ _ news₁
          ∙ ap (λ (l : List Node). noted t x y l (node x g.f01.0 g.f11.0)) low_noted_lem
          ∙ ap₂ (λ a b. noted t x y (low_noted t x y (nodes_of x news) i) (node x a b)) G.is01 G.is11

      low_settled_lem : low ≡ low_settled t x y slots (nodes_of x news) i
      low_settled_lem =
          L.settled ∙ settled_in_lem t x y A.sources.standing_are _ _ news slots
          ∙ ap₂ (settled_in t x y slots (nodes_of x news)) G.is00 G.is10

      high_settled_lem : high ≡ high_settled t x y slots (nodes_of x news) i
      high_settled_lem =
          H.settled ∙ settled_in_lem t x y A.sources.standing_are _ _ news₁ slots
          ∙ ap (λ (l : List Node). settled_in t x y slots l g.f01.0 g.f11.0) low_noted_lem
          ∙ ap₂ (settled_in t x y slots (low_noted t x y (nodes_of x news) i)) G.is01 G.is11

      pub answered : {c : Children} → c ≡ children low high → Answered t p slots i news news₂ c
      answered e = record {
        noted = both_noted_lem;
        settled = ap (with_variable y) e ∙ ap₂ (node y) low_settled_lem high_settled_lem;
        few = omega (arith, L.few, H.few);
      }

-- ---- all crossing records, in their turn

pub turns_begin : {t : List ℕ} {p : Pair} {into crossing : List ℕ} {news kept : List Children} → news ≡ [] → kept ≡ []
    → Turns t p into crossing news kept 0
unfolding nodes_of
turns_begin {t} {p} e f = rw (e, f) (record {
  few = omega arith;
  kept_long = refl;
  news_are = sym (news_none t p.x.0 p.y.0);
  kept_are = λ j b. absurd (not-suc-le-zero b);
})

pub turns_all : {t : List ℕ} {p : Pair} {into crossing : List ℕ} {news kept : List Children} {k m : ℕ} → Turns t p into crossing news kept k → k ≡ m
    → Turns t p into crossing news kept m
turns_all w e = rw (← e) w

module _ {t : List ℕ} {p : Pair} {crossing standing slots : List ℕ} where
  few_crossing : Ready t p crossing standing slots → length crossing ≤ most_records
  few_crossing r = omega (arith, entries_few r.crossing_are, r.sources.few)

  module _ {news kept : List Children} where
    pub turn_comes : {k : ℕ} → Ready t p crossing standing slots → Turns t p slots crossing news kept k → k < length crossing
        → Turn t p crossing standing slots news kept k
    turn_comes r w h = record { ready = r; so_far = w; next = h }

    module _ {k : ℕ} (T : Turn t p crossing standing slots news kept k) where
      pub turn_next : k < length crossing
      turn_next = T.next

      pub turn_asks : {i : ℕ} → i ≡ get_or crossing k 0 → Asks t p standing slots news i
      turn_asks e = record {
        sources = T.ready.sources;
        room = omega (arith, T.next, T.so_far.few, few_crossing T.ready);
        inside = entry_inside {t = t} (inside_of T.ready.crossing_are) T.next e;
        used = entry_used (in_use t p T.ready.crossing_are) T.next e;
      }

      pub turn_keeps : length kept < most_records
      turn_keeps = omega (arith, T.next, T.so_far.kept_long, few_crossing T.ready)

      module _ {i : ℕ} (here : i ≡ get_or crossing k 0) {news' : List Children} {c : Children} (A : Answered t p slots i news news' c)
          {kept' : List Children} (put : kept' ≡ kept ++ (c ∷ [])) where
        place : i ≡ get_or (crossings t p.x.0 p.y.0) k 0
        place = here ∙ ap (λ (l : List ℕ). get_or l k 0) T.ready.crossing_are.is

        among : k < length (crossings t p.x.0 p.y.0)
        among = omega (arith, T.next, ap length T.ready.crossing_are.is)

        becomes_here : with_variable p.y.0 (children_at kept' k) ≡ becomes_in t p.x.0 p.y.0 slots (ref (get_or crossing k 0))
        becomes_here =
            rw put (ap (with_variable p.y.0) (get_or_at kept c [] _ k T.so_far.kept_long))
            ∙ A.settled
            ∙ rw (T.so_far.news_are, place) (becomes_then t p.x.0 p.y.0 slots k among)
            ∙ ap (λ j. becomes_in t p.x.0 p.y.0 slots (ref j)) (sym (ap (λ (l : List ℕ). get_or l k 0) T.ready.crossing_are.is))

        becomes_before : (j : ℕ) → j < k → with_variable p.y.0 (children_at kept' j) ≡ becomes_in t p.x.0 p.y.0 slots (ref (get_or crossing j 0))
        becomes_before j l =
            rw put (ap (with_variable p.y.0) (get_or-append kept (c ∷ []) _ j (omega (arith, T.so_far.kept_long)))) ∙ T.so_far.kept_are j l

        pub turn_taken : Turns t p slots crossing news' kept' (k + 1)
        turn_taken = record {
          few = omega (arith, A.few, T.so_far.few);
          kept_long = ap length put ∙ length-append kept (c ∷ []) ∙ omega (arith, T.so_far.kept_long);
          news_are = A.noted ∙ rw (T.so_far.news_are, place) (sym (news_next t p.x.0 p.y.0 k among));
          kept_are = λ j l. either_side j k (becomes_before j) (λ d. let z : j ≡ k = omega arith in rw z becomes_here);
        }

module _ {t : List ℕ} {p : Pair} (w : Work) {w' : Work} (r : Ready t p w.crossing w.standing w.slots) where
  pub turns_end : {news kept : List Children} {slots crossing : List ℕ} → slots ≡ w.slots → crossing ≡ w.crossing
      → Turns t p slots crossing news kept (length crossing) → w' ≡ with_turns w news kept → Reckoned t p w'
  turns_end {news} {kept} f g h' e = let h : Turns t p w.slots w.crossing news kept (length w.crossing) = rw (← f, ← g) h' in rw e (record {
    crossing_are = r.crossing_are;
    kept_long = h.kept_long;
    news_are = h.news_are ∙ ap (news_after t p.x.0 p.y.0) (ap length r.crossing_are.is) ∙ news_all t p.x.0 p.y.0;
    kept_are = h.kept_are;
  })

module _ {t : List ℕ} {p : Pair} {w w' : Work} (S : Sorted t p w) where
  -- the lists are as they were, but for the slots
  pub sorted_again : {r : List ℕ} → AllSlots t r p w w' → Sorted t p w'
  sorted_again a = rw a.same (record {
    ready = record {
      sources = record { few = S.ready.sources.few; standing_are = S.ready.sources.standing_are; slots_in_lem = slots_inside a.listed };
      crossing_are = S.ready.crossing_are;
    };
    news_none = S.news_none;
    kept_none = S.kept_none;
  })

-- ---- the numbers of a swap

pub needed_is : {t : List ℕ} {p : Pair} {w : Work} → Reckoned t p w → length w.news ≡ needed plain (at (decode t)) (records t) p.x.0 p.y.0
unfolding needed
needed_is {t} {p} {w} R = sym (length_nodes p.x.0 w.news) ∙ ap length R.news_are

pub free_is : (t : List ℕ) {slots : List ℕ} → FreeListed t slots → length slots ≡ free_count (at (decode t)) (records t)
unfolding free_count
free_is t F = ap length F.is ∙ which_length (is_free t) (records t) ∙ sym (count_agrees (is_free t) _ (records t) (kinds.free_is t))

-- ---- the lists as they are filled

pub first_sorted : {t : List ℕ} {p : Pair} {crossing standing slots : List ℕ} {news kept : List Children}
    → Splits t p (records t) crossing standing → FreeListed t slots → news ≡ [] → kept ≡ []
    → Sorted t p (record { crossing = crossing; standing = standing; slots = slots; news = news; kept = kept })
first_sorted S F e f = record {
  ready = record {
    sources = record { few = S.few; standing_are = S.standing_are; slots_in_lem = inside_of F };
    crossing_are = S.crossing_are;
  };
  news_none = e;
  kept_none = f;
}
