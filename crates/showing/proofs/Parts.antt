-- Laws of what specs/Parts.antt defines.
use Rattle.std.specs.Prelude.{ℕ, ◌+◌, ◌-◌, ◌*◌, ◌≤◌, ◌<◌, Bool, List, [], ◌⊎◌, ◌≡◌, length, Ok, Err}
use Rattle.std.proofs.Math.Bool.{true, false}
use Rattle.std.proofs.Common.{inl, inr, sym, ◌∙◌, lt_of_not-le, arith}
use Rattle.std.proofs.Math.Path.{refl, ap}
use borrow.Author.Tests.{lt-ltb, le-ltb, le-leb, lt-leb, ltb-true, ltb-false}
use Rattle.std.proofs.Math.Dec.{ltb}
use Rattle.lists.specs.Apart.{apart}
use Rattle.lists.specs.Says.{nowhere, either_side}
use Rattle.diagrams.specs.Layout.{record_size, most_records, records, root_count, root_at, InTable}
use Rattle.parts.specs.Part.{no_part, Inside, bytes_in}
use Rattle.parts.specs.Lent.{nothing_inside, Lent, handed_long, handed_lent, handed_one}
use Rattle.parts.specs.declared.Part.{Part}
use Rattle.check_roots.specs.Roots.{root_says}
use Rattle.checks.specs.Stages.{Verdict, clear, verdict_of, clear_only, row_refuses, row_passes, place_refuses, place_passes}
use Rattle.checks.specs.Check.{check_stages, used, answered, check_of}
use Rattle.checks.proofs.Theorems.{accepts_only}
use Rattle.checks.proofs.Usable.{passes_all}
use Rattle.checks.specs.declared.Refusal.{Refusal}
use Rattle.checks.specs.declared.Fault.TheVariants.{NoRoot}
use Rattle.reading.specs.Read.{no_root}
use Rattle.showing.specs.Show.{show_stages, shows, part_at, part_of, ShowOutcome}
use Rattle.showing.specs.Parts.{Nothing, Shown, Something, refused_table, no_such_root, constant_root, nothing, something}

-- ---- the ways to the part: a law for each, whose premises are what code knows there

module _ (t r o : List ℕ) (position : ℕ) {v : Verdict} (checked : v ≡ verdict_of (check_stages t r o)) where
  not_shown : {w : Refusal} → Err w ≡ verdict_of (show_stages t r o position) → no_part ≡ part_of t r o position
  unfolding part_of shows
  not_shown e = rw (← e)

  pub refused_part : (w : Refusal) → v ≡ Err w → no_part ≡ part_of t r o position
  unfolding show_stages
  refused_part w h = not_shown (row_refuses (check_stages t r o) _ w checked h)

  module _ {m : ℕ} (passed : v ≡ clear) (counted : m ≡ root_count r) where
    pub no_root_part : m ≤ position → no_part ≡ part_of t r o position
    unfolding show_stages
    no_root_part l =
        not_shown (row_passes (check_stages t r o) _ checked passed
        (place_refuses NoRoot position (no_root r position) clear {b = true} (sym (le-leb (root_count r) position (omega arith))) refl refl))

    module _ {x : ℕ} {b : Bool} (is : x ≡ root_at r position) (flag : b ≡ ltb x 2) (there : position < m) where
      is_shown : clear ≡ verdict_of (show_stages t r o position)
      unfolding show_stages
      is_shown =
          row_passes (check_stages t r o) _ checked passed
          (place_passes NoRoot position (no_root r position) clear {b = false} (sym (lt-leb (root_count r) position (omega arith))) refl refl refl)

      pub constant_part : b ≡ true → no_part ≡ part_of t r o position
      unfolding part_of shows
      constant_part h = rw (← is_shown, ← is, lt-leb 2 x (ltb-true x 2 (sym flag ∙ h)))

      module _ {i : ℕ} (record? : b ≡ false) (number : i ≡ x - 2) where
        pub record_part : {from : ℕ} → from ≡ record_size * i → record { 0 = from; 1 = from + record_size } ≡ part_of t r o position
        unfolding part_of shows
        record_part e = rw (← is_shown, ← is, le-leb 2 x (ltb-false x 2 (sym flag ∙ record?)), e, number)

        -- an accepted table has the records that its roots name
        pub root_inside : InTable t i
        root_inside =
            let all = (passes_all t r o (clear_only (check_stages t r o) (sym checked ∙ passed))).c8 in
            let alive = nowhere (root_says t r) all position (omega arith) in
            let l : i < records t = lt_of_not-le (λ past. alive (rw (← is, ← number) (ltb-false x 2 (sym flag ∙ record?), inl past))) in
            omega arith

        pub record_ends : {from : ℕ} → from ≡ record_size * i → from + record_size ≤ length t
        record_ends e = omega (arith, root_inside)

module _ (t r o : List ℕ) (position : ℕ) where
  not_both : Something t r o position → Nothing t r o position → ⊥
  not_both s (refused_table w e) = apart (cc s.accepted)
  not_both s (no_such_root l) = omega (arith, s.there)
  not_both s (constant_root c) = omega (arith, s.names)

  shown : Shown t r o position
  unfolding check_of
  shown = go (verdict_of (check_stages t r o)) refl
    where
      root : verdict_of (check_stages t r o) ≡ clear → position < root_count r → Shown t r o position
      root e l =
          either_side (root_at r position) 2
          (λ c. nothing (constant_root c) (sym (constant_part t r o position refl e refl refl refl l (lt-ltb (root_at r position) 2 c))))
          (λ c.
          let f : ltb (root_at r position) 2 ≡ false = le-ltb (root_at r position) 2 c in
          something
          (record {
            accepted = ap (λ v. answered v (used t)) e;
            there = l;
            i = root_at r position - 2;
            names = omega arith;
            inside = root_inside t r o position refl e refl refl refl l f refl;
          })
          (sym (record_part t r o position refl e refl refl refl l f refl refl)))

      go : (v : Verdict) → verdict_of (check_stages t r o) ≡ v → Shown t r o position
      go (Ok _) e = either_side position (root_count r) (root e) (λ l. nothing (no_such_root l) (sym (no_root_part t r o position refl e refl l)))
      go (Err w) e = nothing (refused_table w (ap (λ v. answered v (used t)) e)) (sym (refused_part t r o position refl w e))

  -- ---- no part exactly where there is nothing to show; otherwise that of the record which the root names

  pub no_part_if : Nothing t r o position → part_of t r o position ≡ no_part
  no_part_if n = go shown
    where
      go : Shown t r o position → part_of t r o position ≡ no_part
      go (nothing m e) = e
      go (something s e) = absurd (not_both s n)

  pub no_part_only : part_of t r o position ≡ no_part → Nothing t r o position
  no_part_only e = go shown
    where
      go : Shown t r o position → Nothing t r o position
      go (nothing m p) = m
      go (something s p) = absurd (omega (arith, ap (λ (q : Part). q.1) (sym p ∙ e)))

  pub some_part_if : (s : Something t r o position) → part_of t r o position ≡ part_at s.i
  some_part_if s = go shown
    where
      go : Shown t r o position → part_of t r o position ≡ part_at s.i
      go (nothing m e) = absurd (not_both s m)
      go (something u e) = let z : u.i ≡ s.i = omega (arith, u.names, s.names) in e ∙ ap part_at z

  pub some_part_only : (Nothing t r o position → ⊥) → Something t r o position
  some_part_only f = go shown
    where
      go : Shown t r o position → Something t r o position
      go (nothing m e) = absurd (f m)
      go (something s e) = s

  -- the part lies in the table, and in the largest one
  pub part_inside : Inside (part_of t r o position) t
  part_inside = go shown
    where
      go : Shown t r o position → Inside (part_of t r o position) t
      go (nothing m e) = rw e nothing_inside
      go (something s e) = rw e (record { begins = omega arith; ends = s.inside })

  pub part_small : (part_of t r o position).1 ≤ record_size * most_records
  part_small = go shown
    where
      go : Shown t r o position → (part_of t r o position).1 ≤ record_size * most_records
      go (nothing m e) = rw e (omega arith)
      go (something s e) = rw e (omega (arith, s.inside, (accepts_only t r o (used t) s.accepted).0.sizes.few_records))

  -- ---- what is handed back

  module _ {table pointer : ℕ × ℕ} {bytes : List ℕ} (s : ShowOutcome t r o position table pointer bytes) where
    handed : (p : Part) → part_of t r o position ≡ p → bytes ≡ bytes_in p t
    handed p e = rw e at s.the_bytes

    pub show_empty_if : Nothing t r o position → bytes ≡ []
    show_empty_if n = handed no_part (no_part_if n)

    -- the eight bytes of the record
    pub show_record : (w : Something t r o position) → (bytes ≡ bytes_in (part_at w.i) t) × (length bytes ≡ record_size)
    show_record w =
        let e = some_part_if w in
        (handed (part_at w.i) e, handed_long part_inside s ∙ rw e (omega arith))

    pub show_empty_only : bytes ≡ [] → Nothing t r o position
    show_empty_only e = go shown
      where
        go : Shown t r o position → Nothing t r o position
        go (nothing m p) = m
        go (something w p) = absurd (omega (arith, (show_record w).1, ap length e))

    -- in every case a part of the caller's own table, from the part's offset on
    pub show_lent : Lent t table pointer (part_of t r o position).0 record_size bytes
    show_lent = handed_lent part_inside s (go shown)
      where
        go : Shown t r o position → (length bytes ≡ 0) ⊎ (length bytes ≡ record_size)
        go (nothing m e) = inl (ap length (show_empty_if m))
        go (something w e) = inr (show_record w).1

  -- one outcome for each input: the same bytes at the same place
  pub show_one : (table : ℕ × ℕ) {p q : ℕ × ℕ} {a b : List ℕ} → ShowOutcome t r o position table p a → ShowOutcome t r o position table q b
      → (p ≡ q) × (a ≡ b)
  show_one table x y = handed_one x y
