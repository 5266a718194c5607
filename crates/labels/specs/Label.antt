-- The label of a variable: the text of the first record for it in the site's own list, else of the first in the factory's; none where neither list has
-- one, or where the length of either list is wrong.
-- docs/RULES.md, 1.6 and 3.
use Rattle.std.specs.Prelude.{ℕ, ◌+◌, ◌*◌, ◌/◌, ◌%◌, ◌≤◌, Bool, cond, not, ◌||◌, List, [], ◌∷◌, ◌++◌, ◌≡◌, refl, eqb, ltb, length, get_or, replicate}
use Rattle.std.specs.Prelude.{Option, Some, None}
use Rattle.std.specs.Option.{option_map}
use Rattle.lists.specs.First.{first}
use Rattle.lists.specs.Found.{found}
use Rattle.parts.specs.Part.{part_from, no_part, bytes_in, Handed}
use Rattle.parts.specs.Part as part
use Rattle.parts.specs.declared.Part.{Part}
use Rattle.labels.specs.declared.Place.{Place}
use Rattle.labels.specs.declared.Place.TheVariants.{Nowhere, Site, Factory}

-- ---- a list of labels

-- bytes in a record, and in its text: all but the first
abbrev pub label_size : ℕ
label_size = 16

abbrev pub text_size : ℕ
text_size = 15

-- the most records in a list
abbrev pub most_labels : ℕ
most_labels = 64

-- not whole records, or too many
unfoldable pub bad_length : List ℕ → Bool
bad_length l = not (eqb (length l % label_size) 0) || ltb (label_size * most_labels) (length l)

-- how many records
abbrev pub label_count : List ℕ → ℕ
label_count l = length l / label_size

-- record i lies in the list
abbrev pub InLabels : List ℕ → ℕ → Type 0
InLabels l i = label_size * i + label_size ≤ length l

-- byte 0 of record i is the variable; the text follows it
unfoldable pub names : List ℕ → ℕ → ℕ → Bool
names l v i = eqb (get_or l (label_size * i) 0) v

abbrev pub text_part : ℕ → Part
text_part i = part_from (label_size * i + 1) text_size

-- the first record for the variable, if there is one
abbrev pub first_for : List ℕ → ℕ → Option ℕ
first_for l v = found (names l v) (label_count l)

-- where its text stands
abbrev pub first_text : List ℕ → ℕ → Option Part
first_text l v = option_map text_part (first_for l v)

-- ---- the label of variable v, from the site's list s and the factory's list f

-- from where its text stands in each list, if it does: the site's own goes before the factory's
abbrev pub place_of : Option Part → Option Part → Place
place_of (Some p) factory = Site p
place_of None (Some p) = Factory p
place_of None None = Nowhere

-- which list has it, and where in that list its text stands
unfoldable pub label_of : List ℕ → List ℕ → ℕ → Place
label_of s f v = cond (bad_length s || bad_length f) Nowhere (place_of (first_text s v) (first_text f v))

-- of a thing that each of the two lists has, that of the list in which the place is; the site's where there is no label
abbrev pub chosen : {A : Type 0} → Place → A → A → A
chosen Nowhere site factory = site
chosen (Site p) site factory = site
chosen (Factory p) site factory = factory

-- the part of that list; an empty one where there is no label
abbrev pub part_in : Place → Part
part_in Nowhere = no_part
part_in (Site p) = p
part_in (Factory p) = p

-- what may be handed back: that part of that list, in the caller's own memory, where the two lists stand at `site` and at `factory`
pub record LabelOutcome (s f : List ℕ) (v : ℕ) (site factory pointer : ℕ × ℕ) (bytes : List ℕ) : Type 0 where
  pub handed : let p = label_of s f v in Handed (part_in p) (chosen p s f) (chosen p site factory) pointer bytes

-- its bytes
unfoldable pub text_of : List ℕ → List ℕ → ℕ → List ℕ
text_of s f v = let p = label_of s f v in bytes_in (part_in p) (chosen p s f)

-- the numbers of a place: which list, where in it the text begins, and its length
abbrev pub numbers : Place → List ℕ
numbers Nowhere = 0 ∷ part.numbers no_part
numbers (Site p) = 1 ∷ part.numbers p
numbers (Factory p) = 2 ∷ part.numbers p

-- ---- examples

-- a record for a variable, with an empty text
blank : ℕ → List ℕ
blank v = v ∷ replicate text_size 0

-- the first of two records for a variable; the site's list before the factory's
first_counts : label_of (blank 5 ++ blank 7 ++ blank 7) (blank 7) 7 ≡ Site (text_part 1)
unfolding first found bad_length names label_of blank
first_counts = refl

-- the factory's where the site's has none
factory_next : label_of (blank 5) (blank 6 ++ blank 7) 7 ≡ Factory (text_part 1)
unfolding first found bad_length names label_of blank
factory_next = refl

-- none where the length of a list is wrong, though the other names the variable
site_silences : label_of (5 ∷ []) (blank 7) 7 ≡ Nowhere
unfolding first found bad_length names label_of blank
site_silences = refl

factory_silences : label_of (blank 7) (5 ∷ []) 7 ≡ Nowhere
unfolding first found bad_length names label_of blank
factory_silences = refl
