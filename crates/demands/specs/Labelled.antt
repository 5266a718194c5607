-- Request L5: the label of a variable is a part of one of two lists that the caller lends: the site's own, whose bytes are s, or the factory's, f. The
-- variable v is any number.
--
-- `label_of` says which list has the label, and where in it the text stands; `LabelOutcome` is the outcome that the contract of `label` cites.
use Rattle.std.specs.Prelude.{ℕ, List, [], ◌≡◌, length}
use Rattle.std.proofs.Common.{sym, ◌∙◌}
use Rattle.parts.specs.Part.{Handed}
use Rattle.labels.specs.Label.{text_size, text_part, label_of, LabelOutcome}
use Rattle.labels.proofs.Labelled as label
use Rattle.labels.specs.Labelled.{Unlabelled, FromSite, FromFactory, Means}
use Rattle.labels.proofs.Texts as text
use Rattle.labels.specs.Texts.{FromEither}
use Rattle.labels.specs.declared.Place.{Place}
use Rattle.demands.specs.Exactly.{Exactly}

module _ (s f : List ℕ) (v : ℕ) where
  -- a place exactly where what it means holds. Nowhere: the length of a list is wrong, or neither list has a record for the variable. In the site's list: both
  -- lengths are right, and it is the text of the first record for the variable there, whatever the factory's list names. In the factory's: both lengths are
  -- right, the site's list has no record for the variable, and it is the text of the first one in the factory's
  pub label_place : (p : Place) → Exactly (label_of s f v ≡ p) (Means s f v p)
  label_place p = record { wherever = label.place_if s f v p; only = label.place_only s f v p }

  -- what is handed back: `bytes` by the pointer `pointer`; the lists stand at `site` and at `factory` in the caller's memory
  module _ {site factory pointer : ℕ × ℕ} {bytes : List ℕ} (o : LabelOutcome s f v site factory pointer bytes) where
    -- nothing exactly where there is no label, and otherwise the whole text
    pub label_empty : Exactly (bytes ≡ []) (Unlabelled s f v)
    label_empty = record {
      wherever = λ u. text.label_text_lem o ∙ text.text_empty_if s f v u;
      only = λ e. text.text_empty_only s f v (sym (text.label_text_lem o) ∙ e);
    }

    pub label_whole : (Unlabelled s f v → ⊥) → length bytes ≡ text_size
    label_whole n = rw (text.label_text_lem o) (text.text_whole s f v n)

    -- it is the text of the site's record, in the site's list, or that of the factory's record, in the factory's list
    pub label_of_site : {i : ℕ} → FromSite s f v i → Handed (text_part i) s site pointer bytes
    label_of_site = text.label_site o

    pub label_of_factory : {i : ℕ} → FromFactory s f v i → Handed (text_part i) f factory pointer bytes
    label_of_factory = text.label_factory o

    -- in every case the caller's own memory: in the block of one of the two lists, 0 or 15 bytes long, and within that list
    pub label_lent : FromEither s f site factory pointer bytes
    label_lent = text.label_lent o

  pub label_one : (site factory : ℕ × ℕ) {p q : ℕ × ℕ} {a b : List ℕ} → LabelOutcome s f v site factory p a → LabelOutcome s f v site factory q b
      → (p ≡ q) × (a ≡ b)
  label_one = text.label_one s f v
