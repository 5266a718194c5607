-- When a variable has no label, and which one it has otherwise.
use Rattle.std.specs.Prelude.{ℕ, ◌*◌, ◌%◌, ◌≤◌, ◌<◌, List, ◌≡◌, length, get_or}
use Rattle.labels.specs.declared.Place.{Place}
use Rattle.labels.specs.declared.Place.TheVariants.{Nowhere, Site, Factory}
use Rattle.labels.specs.Label.{label_size, most_labels, label_count, text_part}

-- ---- what the words mean

-- whole records, and not too many
pub record RightLength (l : List ℕ) : Type 0 where
  pub whole : length l % label_size ≡ 0
  pub few : length l ≤ label_size * most_labels

-- record i of the list is one for the variable
pub record RecordFor (l : List ℕ) (v i : ℕ) : Type 0 where
  pub inside : i < label_count l
  pub is : get_or l (label_size * i) 0 ≡ v

abbrev pub Unnamed : List ℕ → ℕ → Type 0
Unnamed l v = (i : ℕ) → RecordFor l v i → ⊥

-- and none before it is
pub record FirstFor (l : List ℕ) (v i : ℕ) : Type 0 where
  pub itself : RecordFor l v i
  pub before : (j : ℕ) → j < i → RecordFor l v j → ⊥

-- no label: a length is wrong, whatever the other list holds, or neither list names the variable
pub data Unlabelled (s f : List ℕ) (v : ℕ) : Type 0 where
  site_wrong : (RightLength s → ⊥) → Unlabelled s f v
  factory_wrong : (RightLength f → ⊥) → Unlabelled s f v
  neither : Unnamed s v → Unnamed f v → Unlabelled s f v

-- the label of the site's record i, whatever the factory's list names
pub record FromSite (s f : List ℕ) (v i : ℕ) : Type 0 where
  pub right : RightLength s × RightLength f
  pub first : FirstFor s v i

-- that of the factory's record i, where the site's list has none
pub record FromFactory (s f : List ℕ) (v i : ℕ) : Type 0 where
  pub right : RightLength s × RightLength f
  pub unnamed : Unnamed s v
  pub first : FirstFor f v i

-- ---- each place

-- what it means: why there is no label, or which record of which list has it
abbrev pub Means : List ℕ → List ℕ → ℕ → Place → Type 0
Means s f v Nowhere = Unlabelled s f v
Means s f v (Site p) = (i : ℕ) × (FromSite s f v i × (p ≡ text_part i))
Means s f v (Factory p) = (i : ℕ) × (FromFactory s f v i × (p ≡ text_part i))
