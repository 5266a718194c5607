-- The image of the table afterwards: the records as they were, and over them what dies, the new ones and the crossed ones, are the definition's.
use Prim.Native.Nat.{ℕ, ◌+◌, ◌-◌, ◌*◌, ◌%◌, ◌≤◌, ◌<◌}
use Rattle.std.specs.Prelude.{Bool, true, false, ◌≡◌, refl, ltb, take, drop}
use Rattle.std.proofs.Math.Bool.{cond}
use mathlib.Core.List.{List, ◌++◌}
use Rattle.std.proofs.Math.Path.{ap, ap₂}
use Rattle.std.proofs.Common.{sym, ◌∙◌, arith, ltb-true, length-append, length-drop, drop_at, take_all}
use Rattle.std.proofs.lemmas.List.{get_or-drop}
use Rattle.std.proofs.Math.ListN.{length, get_or}
use Rattle.std.proofs.Math.Seq.{take_at}
use Rattle.lists.specs.Entries.{through, fold_which}
use Rattle.lists.specs.Fold.{fold, fold_agrees}
use Rattle.lists.specs.Places.{place_in}
use Rattle.lists.specs.Tabulate.{tabulate, length_tabulate, tabulate_agrees}
use Rattle.lists.specs.Which.{which}
use Rattle.diagrams.specs.Edition.{plain}
use Rattle.diagrams.specs.Layout.{record_size, records, is_free}
use Rattle.diagrams.specs.Node.{Node, free, at, ref}
use Rattle.diagrams.specs.Decode.{node_at, decode, eight, encode}
use Rattle.diagrams.specs.Lookup.{length_decode, at_decode, roots_of}
use Rattle.diagrams.specs.Store.{stored_at, length_encode, stores_encode, stores_where, stores_into}
use Rattle.swap_rules.specs.Swap.{slot_index, filled, record_after, swapped}
use Rattle.swap_records.specs.Kinds.{crosses_at}
use Rattle.swap_records.specs.Listed.{Inside, inside_of}
use Rattle.swap_records.specs.Children.{children_at, with_variable, nodes_at}
use Rattle.swap_records.specs.declared.children.Children.{Children}
use Rattle.swap_records.specs.declared.Pair.{Pair}
use Rattle.swap_names.specs.Dying.{dies_in}
use Rattle.swap_names.specs.Slots.{slots_in, SlotsListed, slots_which, slots_apart, slots_inside}
use Rattle.swap_reckoning.specs.Asked.{news_in, becomes_in}
use Rattle.swap_reckoning.specs.Reckoned.{Reckoned, needed_is}
use Rattle.swap_reckoning.specs.declared.Work.{Work}

-- ---- one record stored

-- record i as it is
unfoldable pub stayed : List ℕ → List ℕ → ℕ → List ℕ
stayed t l i = stored_at l i (eight (node_at t i))

-- a free one, at number k of the list
unfoldable pub freed : List ℕ → List ℕ → ℕ → List ℕ
freed numbers l k = stored_at l (get_or numbers k 0) (eight free)

-- one with the variable v and children k, at number k of the list
unfoldable pub placed : ℕ → List Children → List ℕ → List ℕ → ℕ → List ℕ
placed v children numbers l k = stored_at l (get_or numbers k 0) (eight (with_variable v (children_at children k)))

-- all records as they are, and then those that die as free records
unfoldable pub living : List ℕ → List ℕ → List ℕ → List ℕ
living t dying image = fold (freed dying) (fold (stayed t) image (records t)) (length dying)

-- the image has room for the table, and what dies is records of it
pub record Copyable (t dying image : List ℕ) : Type 0 where
  pub long : length t ≤ length image
  pub inside : Inside t dying

-- ---- the whole image

-- the slots of the swap, the first of which are the free records
pub record SlotsFor (t r : List ℕ) (p : Pair) (slots : List ℕ) (free : ℕ) : Type 0 where
  pub listed : SlotsListed t r p slots
  pub frees : free ≡ length (which (is_free t) (records t))

-- the swap is reckoned and has room, and the image has room for the table
pub record Fillable (t : List ℕ) (p : Pair) (w : Work) (free : ℕ) (image : List ℕ) : Type 0 where
  pub whole_records : length t % record_size ≡ 0
  pub small_x : p.x.0 < 256
  pub small_y : p.y.0 < 256
  pub reckoned : Reckoned t p w
  pub long : length t ≤ length image
  pub inside : Inside t w.slots
  pub free_among : free ≤ length w.slots
  pub fit : length w.news ≤ length w.slots

-- the front of the image is the table afterwards, with the roots for which these are the slots
pub record Filled (t : List ℕ) (p : Pair) (slots : List ℕ) (free : ℕ) (image : List ℕ) : Type 0 where
  pub is : (r : List ℕ) → SlotsFor t r p slots free → take (length t) image ≡ encode (swapped plain (decode t) p.x.0 p.y.0 (roots_of r))

-- ---- the rows of records in the image, one after the other

-- the bytes of a record for each of the table's, and what stands after them
abbrev row : List ℕ → List ℕ → (ℕ → Node) → List ℕ
row t d f = encode (tabulate (records t) f) ++ d

module _ {t r : List ℕ} {p : Pair} {slots : List ℕ} {free_slots : ℕ} (S : SlotsFor t r p slots free_slots) where
  both : slots ≡ which (is_free t) (records t) ++ which (dies_in t r p) (records t)
  both = S.listed.is ∙ slots_which t r p

  pub free_first : free_slots ≤ length slots
  free_first = omega (arith, ap length both, S.frees, length-append (which (is_free t) (records t)) (which (dies_in t r p) (records t)))

  -- what dies stands after the free ones
  dying_are : drop free_slots slots ≡ which (dies_in t r p) (records t)
  dying_are = ap₂ drop S.frees both ∙ drop_at (which (is_free t) (records t)) (which (dies_in t r p) (records t)) _ refl

  dead_row : (d : List ℕ) (f : ℕ → Node) → fold (freed (drop free_slots slots)) (row t d f) (length (drop free_slots slots))
      ≡ row t d (λ i. cond (dies_in t r p i) free (f i))
  unfolding freed
  dead_row d f =
      ap (λ (l : List ℕ). fold (through l into) (row t d f) (length l)) dying_are
      ∙ fold_which into (dies_in t r p) (row t d f) (records t)
      ∙ stores_where (dies_in t r p) (λ i. free) f d (records t)
    where
      into : List ℕ → ℕ → List ℕ
      into l i = stored_at l i (eight free)

  -- the new records, each in its slot
  new_row : (d : List ℕ) (x : ℕ) (news : List Children) (f : ℕ → Node) → length news ≤ length slots → fold (placed x news slots) (row t d f) (length news)
      ≡ row t d (λ i. cond (ltb (place_in (slots_in t r p) i) (length news)) (with_variable x (children_at news (place_in (slots_in t r p) i))) (f i))
  unfolding placed
  new_row d x news f h =
      rw S.listed.is
      (stores_into (slots_in t r p) (slots_apart t r p) (λ j. with_variable x (children_at news j)) f d (records t) inside (length news)
      (omega (arith, ap length S.listed.is)))
    where
      inside : (j : ℕ) → j < length (slots_in t r p) → get_or (slots_in t r p) j 0 < records t
      inside j b = rw (← S.listed.is) (omega (arith, (slots_inside S.listed).at j (omega (arith, ap length S.listed.is))))

module _ {t : List ℕ} {p : Pair} {w : Work} (R : Reckoned t p w) where
  abbrev x : ℕ
  x = p.x.0

  abbrev y : ℕ
  y = p.y.0

  crossed_row : (d : List ℕ) (f : ℕ → Node)
      → fold (placed y w.kept w.crossing) (row t d f) (length w.kept)
      ≡ row t d (λ i. cond (crosses_at t x y i) (becomes_in t x y w.slots (ref i)) (f i))
  unfolding placed
  crossed_row d f =
      ap (fold (placed y w.kept w.crossing) (row t d f)) R.kept_long
      ∙ fold_agrees _ (through w.crossing into) (row t d f) (length w.crossing)
      (λ l j b. ap (λ m. stored_at l (get_or w.crossing j 0) (eight m)) (R.kept_are j b))
      ∙ ap (λ (l : List ℕ). fold (through l into) (row t d f) (length l)) R.crossing_are.is
      ∙ fold_which into (crosses_at t x y) (row t d f) (records t)
      ∙ stores_where (crosses_at t x y) (λ i. becomes_in t x y w.slots (ref i)) f d (records t)
    where
      into : List ℕ → ℕ → List ℕ
      into l i = stored_at l i (eight (becomes_in t x y w.slots (ref i)))

  -- ---- record i is the definition's

  module _ {r : List ℕ} {free_slots : ℕ} (S : SlotsFor t r p w.slots free_slots) (i : ℕ) (h : i < records t) where
    abbrev index : ℕ
    index = place_in (slots_in t r p) i

    other_is : (u : Bool) → ltb index (length w.news) ≡ u
        → cond u (with_variable x (children_at w.news index)) (cond (dies_in t r p i) free (node_at t i))
        ≡ cond u (get_or (news_in t x y) index free) (cond (dies_in t r p i) free (at (decode t) i))
    other_is true e = sym (nodes_at x w.news index (ltb-true _ _ e)) ∙ ap (λ (l : List Node). get_or l index free) R.news_are
    other_is false e = ap (cond (dies_in t r p i) free) (sym (at_decode t i h))

    after_is : cond (crosses_at t x y i) (becomes_in t x y w.slots (ref i))
        (cond (ltb index (length w.news)) (with_variable x (children_at w.news index)) (cond (dies_in t r p i) free (node_at t i)))
        ≡ record_after plain (at (decode t)) (records t) x y (roots_of r) i
    unfolding record_after filled slot_index
    after_is =
        ap₂ (λ (l : List ℕ) (m : Node). cond (crosses_at t x y i) (becomes_in t x y l (ref i)) m) S.listed.is (other_is _ refl)
        ∙ ap (λ m. cond (crosses_at t x y i) (becomes_in t x y (slots_in t r p) (ref i))
        (cond (ltb index m) (get_or (news_in t x y) index free) (cond (dies_in t r p i) free (at (decode t) i)))) (needed_is R)

-- ---- the image as it is filled

-- numbers of records of the table are those of records of an image that has room for it
inside_image : {t numbers image : List ℕ} → Inside t numbers → length t ≤ length image → Inside image numbers
inside_image s h = record { at = λ k b. omega (arith, s.at k b) }

pub dying_inside : {t dying image : List ℕ} → Copyable t dying image → (l₁ : List ℕ) → length l₁ ≡ length image → Inside l₁ dying
dying_inside c l₁ same = inside_image c.inside (omega (arith, c.long))

pub copied_living : (t dying image : List ℕ) {l₁ l₂ : List ℕ} → l₁ ≡ fold (stayed t) image (records t)
    → l₂ ≡ fold (freed dying) l₁ (length dying) → l₂ ≡ living t dying image
unfolding living
copied_living t dying image e h = rw (← e) h

module _ {t : List ℕ} {p : Pair} {w : Work} {free_slots : ℕ} {image : List ℕ} (F : Fillable t p w free_slots image) where
  pub copyable : {dying : List ℕ} → dying ≡ drop free_slots w.slots → Copyable t dying image
  copyable e = record {
    long = F.long;
    inside = record {
      at = λ k b. rw (e, get_or-drop) (omega (arith, F.inside.at (free_slots + k) (omega (arith, ap length e, length-drop free_slots w.slots))));
    };
  }

  module _ (l : List ℕ) (same : length l ≡ length image) where
    pub slots_there : {slots : List ℕ} → slots ≡ w.slots → Inside l slots
    slots_there e = rw e (inside_image F.inside (omega (arith, F.long)))

    pub crossing_there : {crossing : List ℕ} → crossing ≡ w.crossing → Inside l crossing
    crossing_there e = rw e (inside_image (inside_of F.reckoned.crossing_are) (omega (arith, F.long)))

  pub kept_fit : {kept : List Children} {crossing : List ℕ} → kept ≡ w.kept → crossing ≡ w.crossing → length kept ≤ length crossing
  kept_fit k c = rw (k, c) (omega (arith, F.reckoned.kept_long))

-- what a slice from a place on holds
pub slice_past : (from : ℕ) {list slots : List ℕ} → list ≡ slots → take (length list - from) (drop from list) ≡ drop from slots
slice_past from {list} {slots} e = rw e (take_all (length slots - from) (drop from slots) (omega (arith, length-drop from slots)))

module _ {t : List ℕ} {p : Pair} {w : Work} {free_slots : ℕ} {image : List ℕ}
    (F : Fillable t p w free_slots image) {l₁ l₂ l₃ : List ℕ} (live : l₁ ≡ living t (drop free_slots w.slots) image)
    (new : l₂ ≡ fold (placed p.x.0 w.news w.slots) l₁ (length w.news)) (cross : l₃ ≡ fold (placed p.y.0 w.kept w.crossing) l₂ (length w.kept)) where
  rest : List ℕ
  rest = drop (record_size * records t) image

  module _ (r : List ℕ) (S : SlotsFor t r p w.slots free_slots) where
    nodes : List Node
    nodes = swapped plain (decode t) p.x.0 p.y.0 (roots_of r)

    first_row : l₁ ≡ row t rest (λ i. cond (dies_in t r p i) free (node_at t i))
    unfolding stayed living rest
    first_row =
        live
        ∙ ap (λ l. fold (freed (drop free_slots w.slots)) l (length (drop free_slots w.slots))) (stores_encode image (node_at t) (records t))
        ∙ dead_row S rest (node_at t)

    last_row : l₃ ≡ encode nodes ++ rest
    unfolding swapped nodes
    last_row =
        cross
        ∙ ap (λ l. fold (placed p.y.0 w.kept w.crossing) l (length w.kept))
        (new ∙ ap (λ l. fold (placed p.x.0 w.news w.slots) l (length w.news)) first_row ∙ new_row S rest p.x.0 w.news _ F.fit)
        ∙ crossed_row F.reckoned rest _
        ∙ ap (λ l. encode l ++ rest)
        (tabulate_agrees (records t) _ _ (after_is F.reckoned S)
        ∙ ap (λ n. tabulate n (record_after plain (at (decode t)) n p.x.0 p.y.0 (roots_of r))) (sym (length_decode t)))

    front : take (length t) l₃ ≡ encode nodes
    unfolding nodes swapped
    front = ap (take (length t)) last_row ∙ take_at (encode nodes) rest (length t) whole
      where
        whole : length (encode nodes) ≡ length t
        whole = length_encode nodes ∙ ap (λ n. record_size * n) (length_tabulate (length (decode t)) _ ∙ length_decode t) ∙ omega (arith, F.whole_records)

  image_filled : Filled t p w.slots free_slots l₃
  unfolding nodes
  image_filled = record { is = front }

-- the same by slices of the lists
pub filled_by : {t : List ℕ} {p : Pair} {w : Work} {free_slots : ℕ} {image : List ℕ} → Fillable t p w free_slots image
    → {dying slots crossing : List ℕ} {news kept : List Children} {l₁ l₂ l₃ : List ℕ}
    → dying ≡ drop free_slots w.slots → slots ≡ w.slots → news ≡ w.news → kept ≡ w.kept → crossing ≡ w.crossing
    → l₁ ≡ living t dying image → l₂ ≡ fold (placed p.x.0 news slots) l₁ (length news) → l₃ ≡ fold (placed p.y.0 kept crossing) l₂ (length kept)
    → Filled t p w.slots free_slots l₃
filled_by F d s n k c live new cross = image_filled F (rw d at live) (rw (n, s) at new) (rw (k, c) at cross)
