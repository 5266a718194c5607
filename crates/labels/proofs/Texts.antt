-- Laws of what specs/Texts.antt defines.
use Rattle.std.specs.Prelude.{ℕ, ◌≤◌, List, [], ◌⊎◌, ◌≡◌, refl, length}
use Rattle.std.proofs.Math.Logic.{inl, inr}
use Rattle.std.proofs.Common.{⊎_elim, ap, ◌∙◌, arith}
use Rattle.parts.specs.Part.{bytes_in, Handed}
use Rattle.parts.specs.Lent.{bytes_long, Lent, handed_lent, handed_one}
use Rattle.labels.specs.declared.Place.{Place}
use Rattle.labels.specs.declared.Place.TheVariants.{Nowhere, Site, Factory}
use Rattle.labels.specs.Label.{text_size, text_part, label_of, chosen, part_in, LabelOutcome, text_of}
use Rattle.labels.specs.Labelled.{FirstFor, Unlabelled, FromSite, FromFactory, Means}
use Rattle.labels.proofs.Labelled.{means, place_if, place_inside, text_inside}
use Rattle.labels.specs.Texts.{FromEither, lent_by_site, lent_by_factory}

-- ---- the text of a variable's label: empty exactly where it has none, else whole

text_long : (l : List ℕ) {v i : ℕ} → FirstFor l v i → length (bytes_in (text_part i) l) ≡ text_size
text_long l w = bytes_long (text_inside l w.itself.inside) ∙ omega arith

module _ (s f : List ℕ) (v : ℕ) where
  text_cases : Unlabelled s f v ⊎ (length (text_of s f v) ≡ text_size)
  unfolding text_of
  text_cases = go (label_of s f v) (means s f v)
    where
      go : (p : Place) → Means s f v p → Unlabelled s f v ⊎ (length (bytes_in (part_in p) (chosen p s f)) ≡ text_size)
      go Nowhere m = inl m
      go (Site p) (i, (w, e)) = inr (rw e (text_long s w.first))
      go (Factory p) (i, (w, e)) = inr (rw e (text_long f w.first))

  pub text_empty_if : Unlabelled s f v → text_of s f v ≡ []
  unfolding text_of
  text_empty_if u = rw (place_if s f v Nowhere u)

  pub text_empty_only : text_of s f v ≡ [] → Unlabelled s f v
  text_empty_only e = ⊎_elim (λ u. u) (λ h. absurd (omega (arith, ap length e))) text_cases

  pub text_whole : (Unlabelled s f v → ⊥) → length (text_of s f v) ≡ text_size
  text_whole n = ⊎_elim (λ u. absurd (n u)) (λ h. h) text_cases

  none_or_all : (length (text_of s f v) ≡ 0) ⊎ (length (text_of s f v) ≡ text_size)
  none_or_all = ⊎_elim (λ u. inl (ap length (text_empty_if u))) inr text_cases

  pub text_short : length (text_of s f v) ≤ text_size
  text_short = ⊎_elim (λ h. omega arith) (λ h. omega arith) none_or_all

module _ {s f : List ℕ} {v : ℕ} {a b pointer : ℕ × ℕ} {bytes : List ℕ} (o : LabelOutcome s f v a b pointer bytes) where
  pub label_text_lem : bytes ≡ text_of s f v
  unfolding text_of
  label_text_lem = o.handed.the_bytes

  pub label_site : {i : ℕ} → FromSite s f v i → Handed (text_part i) s a pointer bytes
  label_site {i} w = rw (place_if s f v (Site (text_part i)) (i, (w, refl))) at o.handed

  pub label_factory : {i : ℕ} → FromFactory s f v i → Handed (text_part i) f b pointer bytes
  label_factory {i} w = rw (place_if s f v (Factory (text_part i)) (i, (w, refl))) at o.handed

  pub label_lent : FromEither s f a b pointer bytes
  label_lent = go (label_of s f v) (handed_lent (place_inside s f v) o.handed (rw label_text_lem (none_or_all s f v)))
    where
      go : (p : Place) → Lent (chosen p s f) (chosen p a b) pointer (part_in p).0 text_size bytes → FromEither s f a b pointer bytes
      go Nowhere h = lent_by_site _ h
      go (Site p) h = lent_by_site _ h
      go (Factory p) h = lent_by_factory _ h

-- one outcome for each input: the same bytes at the same place
pub label_one : (s f : List ℕ) (v : ℕ) (a b : ℕ × ℕ) {x y : ℕ × ℕ} {k l : List ℕ} → LabelOutcome s f v a b x k → LabelOutcome s f v a b y l
    → (x ≡ y) × (k ≡ l)
label_one s f v a b h g = handed_one h.handed g.handed
