-- What the crossing records ask for, one after the other, and X(a, b) as it is found on the way: the new records only grow at their end,
-- so that what is found among those so far is found at the same place among all of them. The new records go `into` the records of a list.
use Prim.Native.Nat.{ℕ, suc, ◌+◌, ◌≤◌, ◌<◌}
use Rattle.std.specs.Prelude.{Bool, cond, not, ◌&&◌, ◌≡◌, eqb, length, take}
use Rattle.std.proofs.Math.Bool.{true, false}
use mathlib.Core.List.{List, [], ◌∷◌, ◌++◌, append_assoc, append-nil}
use Rattle.std.proofs.Math.Path.{refl, ap, ap₂, sym}
use Rattle.std.proofs.Common.{◌∙◌, le_refl, add-one, arith, take_all}
use Rattle.std.proofs.Math.Decide.{le_ind}
use Rattle.std.proofs.Math.ListN.{get_or}
use Rattle.std.proofs.Math.Seq.{take-suc}
use Rattle.lists.specs.Begins.{Begins, begins_itself, begins_more, begins_on, place_of, place_settled}
use Rattle.lists.specs.First.{first, any}
use Rattle.lists.specs.Each.{each, each_append}
use Rattle.lists.specs.Keep.{keep, keep_append}
use Rattle.lists.specs.Once.{once, once_more}
use Rattle.lists.specs.Which.{which}
use Rattle.diagrams.specs.Edition.{plain}
use Rattle.diagrams.specs.Layout.{records}
use Rattle.diagrams.specs.Node.{Node, free, node, at, ref}
use Rattle.diagrams.specs.Decode.{decode}
use Rattle.diagrams.specs.Lookup.{lookup}
use Rattle.swap_rules.specs.Record.{low_of, high_of, same, says_same}
use Rattle.swap_rules.specs.Swap.{f00, f01, f10, f11, asked, both_asked, stands, is_new, wanted, news, slot_of, X, becomes}
use Rattle.swap_records.specs.Kinds.{crosses_at}

-- ---- a swap's definition, of a stored table

module _ (t : List ℕ) (x y : ℕ) where
  -- the crossing records, in rising record number
  abbrev pub crossings : List ℕ
  crossings = which (crosses_at t x y) (records t)

  -- the new records
  abbrev pub news_in : List Node
  news_in = news plain (at (decode t)) (records t) x y

  -- record j stands, and is w
  abbrev pub stands_in : Node → ℕ → Bool
  stands_in = stands plain (at (decode t)) x y

  -- what a crossing record becomes, where the new records go into these
  abbrev pub becomes_in : List ℕ → ℕ → Node
  becomes_in into = becomes plain (at (decode t)) (records t) x y into

  abbrev XIn : List ℕ → ℕ → ℕ → ℕ
  XIn into = X plain (at (decode t)) (records t) x y into

  abbrev is_new_in : Node → Bool
  is_new_in = is_new plain (at (decode t)) (records t) x y

-- ---- the same on the way

module _ (t : List ℕ) (x y : ℕ) where
  -- those of the records asked for that have to be made, each once
  abbrev made : List Node → List Node
  made l = once same (keep (is_new_in t x y) l)

  -- the new records that the first k crossing ones ask for
  unfoldable pub news_after : ℕ → List Node
  news_after k = made (each (both_asked plain (at (decode t)) x y) (take k (crossings t x y)))

  -- w is asked for: one that has to be made, and is not among the new records l, goes to their end
  unfoldable pub noted : List Node → Node → List Node
  noted l w = cond (is_new_in t x y w) (cond (any (λ j. same w (get_or l j free)) (length l)) l (l ++ (w ∷ []))) l

  -- X(a, b), looked for among the new records l
  unfoldable pub settled_in : List ℕ → List Node → ℕ → ℕ → ℕ
  settled_in into l a b =
      cond (eqb a b) a
      (ref
      (cond (any (stands_in t x y (node x a b)) (records t)) (first (stands_in t x y (node x a b)) (records t))
      (get_or into (place_of (same (node x a b)) free l) 0)))

  -- record i asks for its low, then for its high
  abbrev pub low_noted : List Node → ℕ → List Node
  low_noted l i = noted l (asked (lookup t) x y false (ref i))

  abbrev pub both_noted : List Node → ℕ → List Node
  both_noted l i = noted (low_noted l i) (asked (lookup t) x y true (ref i))

  -- ---- crossing record by crossing record

  pub news_none : news_after 0 ≡ []
  unfolding news_after each keep once
  news_none = refl

  pub news_all : news_after (length (crossings t x y)) ≡ news_in t x y
  unfolding news_after news wanted
  news_all =
      ap (λ (l : List ℕ). made (each (both_asked plain (at (decode t)) x y) l))
      (take_all (length (crossings t x y)) (crossings t x y) (le_refl (length (crossings t x y))))

  note : (l : List Node) (w : Node) → made (l ++ (w ∷ [])) ≡ noted (made l) w
  unfolding noted keep
  note l w = ap (once same) (keep_append (is_new_in t x y) l (w ∷ [])) ∙ go (is_new_in t x y w)
    where
      k : List Node
      k = keep (is_new_in t x y) l

      go : (u : Bool) → once same (k ++ cond u (w ∷ []) [])
          ≡ cond u (cond (any (λ j. same w (get_or (once same k) j free)) (length (once same k))) (once same k) (once same k ++ (w ∷ []))) (once same k)
      go true = once_more same says_same k w free
      go false = ap (once same) (append-nil k)

  pub news_next : (k : ℕ) → k < length (crossings t x y) → news_after (k + 1) ≡ both_noted (news_after k) (get_or (crossings t x y) k 0)
  unfolding news_after each
  news_next k h =
      rw (add-one, take-suc (crossings t x y) k 0)
      (ap made (each_append (both_asked plain (at (decode t)) x y) (take k (crossings t x y)) (i ∷ []) ∙ sym (append_assoc before _ _))
      ∙ note (before ++ (asked (lookup t) x y false (ref i) ∷ [])) (asked (lookup t) x y true (ref i))
      ∙ ap (λ (l : List Node). noted l (asked (lookup t) x y true (ref i))) (note before (asked (lookup t) x y false (ref i))))
    where
      i : ℕ
      i = get_or (crossings t x y) k 0

      before : List Node
      before = each (both_asked plain (at (decode t)) x y) (take k (crossings t x y))

  -- ---- the new records only grow at their end

  noted_begins : (l : List Node) (w : Node) → Begins l (noted l w)
  unfolding noted
  noted_begins l w = go (is_new_in t x y w) (any (λ j. same w (get_or l j free)) (length l))
    where
      go : (u v : Bool) → Begins l (cond u (cond v l (l ++ (w ∷ []))) l)
      go true true = begins_itself l
      go true false = begins_more l (w ∷ [])
      go false v = begins_itself l

  next_begins : (k : ℕ) → k < length (crossings t x y) → Begins (news_after k) (news_after (k + 1))
  next_begins k h =
      rw (news_next k h)
      (begins_on (noted_begins (news_after k) (asked (lookup t) x y false (ref (get_or (crossings t x y) k 0)))) (noted_begins _ _))

  begins_to : (k m : ℕ) → k ≤ m → m ≤ length (crossings t x y) → Begins (news_after k) (news_after m)
  begins_to k m l =
      le_ind {n = k} (λ n. n ≤ length (crossings t x y) → Begins (news_after k) (news_after n))
      (λ h. begins_itself (news_after k))
      (λ n b ih h. let e : n + 1 ≡ suc n = add-one n in begins_on (ih (omega arith)) (rw e at (next_begins n (omega arith))))
      m l

  after_begins : (k : ℕ) → k ≤ length (crossings t x y) → Begins (news_after k) (news_in t x y)
  after_begins k h = rw news_all at (begins_to k (length (crossings t x y)) h (le_refl (length (crossings t x y))))

  -- ---- and so X(a, b) is what was found when it was asked for

  settled_final : (into : List ℕ) (l : List Node) (a b : ℕ) → Begins (noted l (node x a b)) (news_in t x y) → settled_in into l a b ≡ XIn t x y into a b
  unfolding noted settled_in is_new low_of high_of X slot_of
  settled_final into l a b = go (eqb a b) (any (stands_in t x y w) (records t))
    where
      w : Node
      w = node x a b

      place : ℕ
      place = first (stands_in t x y w) (records t)

      go : (u v : Bool) → Begins (cond (not u && not v) (cond (any (λ j. same w (get_or l j free)) (length l)) l (l ++ (w ∷ []))) l) (news_in t x y)
          → cond u a (ref (cond v place (get_or into (place_of (same w) free l) 0)))
          ≡ cond u a (ref (cond v place (get_or into (place_of (same w) free (news_in t x y)) 0)))
      go true v b = refl
      go false true b = refl
      go false false b = ap (λ j. ref (get_or into j 0)) (sym (place_settled (same w) free l w ((says_same w w).no refl) b))

  -- a crossing record, with l as the new records when its turn comes: X(f00, f10) and X(f01, f11) as they are found then
  abbrev pub low_settled : List ℕ → List Node → ℕ → ℕ
  low_settled into l i = settled_in into l (f00 (lookup t) y (ref i)) (f10 (lookup t) y (ref i))

  abbrev pub high_settled : List ℕ → List Node → ℕ → ℕ
  high_settled into l i = settled_in into (low_noted l i) (f01 (lookup t) y (ref i)) (f11 (lookup t) y (ref i))

  abbrev pub crossed_node : List ℕ → List Node → ℕ → Node
  crossed_node into l i = node y (low_settled into l i) (high_settled into l i)

  pub becomes_then : (into : List ℕ) (k : ℕ) → k < length (crossings t x y)
      → crossed_node into (news_after k) (get_or (crossings t x y) k 0) ≡ becomes_in t x y into (ref (get_or (crossings t x y) k 0))
  unfolding asked becomes
  becomes_then into k h =
      ap₂ (node y) (settled_final into (news_after k) _ _ (begins_on (noted_begins _ _) both)) (settled_final into (low_noted (news_after k) i) _ _ both)
    where
      i : ℕ
      i = get_or (crossings t x y) k 0

      both : Begins (both_noted (news_after k) i) (news_in t x y)
      both = rw (news_next k h) at (after_begins (k + 1) (omega arith))
