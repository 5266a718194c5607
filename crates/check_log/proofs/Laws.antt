-- The laws of the checks of a log.
use Rattle.std.specs.Prelude.{ℕ, zero, suc, ◌+◌, ◌*◌, ◌≤◌, ◌<◌, Bool, true, false, cond, not, ◌||◌, List, [], ◌∷◌, Some, None, ◌≡◌, refl, eqb, ltb}
use Rattle.std.specs.Prelude.{length, get_or, take, drop, set, replicate}
use Rattle.std.specs.List.{list_any}
use Rattle.std.proofs.Common.{ap, sym, ◌∙◌, arith, rules, zero-le, suc-le-suc, lt-ltb}
use Rattle.std.proofs.Math.Dec.{leb-suc-suc}
use lib.ListN.{length-replicate, get_or-replicate}
use Rattle.std.proofs.lemmas.List.{length-take, length-drop, get_or-take, get_or-drop}
use Rattle.lists.specs.First.{first, any, any_none, passed_none, first_agrees}
use Rattle.lists.specs.Found.{any_listed, found, seek_finds, seek_ends}
use Rattle.checks.specs.Stages.{clear, verdict_of, AllPass, also, passed_only, clear_only}
use Rattle.undo.specs.Log.{entry_size, is_sealed, seal_count, counted}
use Rattle.check_log.specs.BadLog.{some_byte, bad_log_size, bad_seal, bad_entry, log_stages, log_sizes, seal_few}
use Rattle.check_log.specs.Slots.{misplaced, slot_at, slots, is_marked, Marked, bad_parts, entry_says, marks_more, slot_small}

-- ---- some byte of a part of the log

-- what `any` says of the n bytes from an index on
pub some_listed : (log : List ℕ) (at n : ℕ) {b : Bool} → at + n ≤ length log → b ≡ list_any (λ x. not (eqb x 0)) (take n (drop at log)) → b ≡ some_byte log at n
unfolding some_byte
some_listed log at n h e =
    let long : length (take n (drop at log)) ≡ n = omega (arith, length-take n (drop at log), length-drop at log) in
    e ∙ any_listed (λ x. not (eqb x 0)) (take n (drop at log))
    ∙ ap (any (λ j. not (eqb (get_or (take n (drop at log)) j 0) 0))) long
    ∙ ap (λ m. ltb m n) (first_agrees _ _ n (λ j l. ap (λ x. not (eqb x 0)) (get_or-take n (drop at log) j 0 l ∙ get_or-drop at log j 0)))

-- ---- the sizes

pub size_long : (log : List ℕ) → bad_log_size log ≡ false → entry_size ≤ length log
size_long log e = (log_sizes log e).some

pub count_few : (log : List ℕ) → bad_log_size log ≡ false → bad_seal log ≡ false → entry_size * counted log ≤ length log
count_few log z e = go (is_sealed log) refl
  where
    go : (c : Bool) → is_sealed log ≡ c → entry_size * cond c (seal_count log) 0 ≤ length log
    go true s = omega (arith, seal_few log s e, size_long log z)
    go false s = omega arith

pub clear_long : (log : List ℕ) (N n : ℕ) → verdict_of (log_stages log N n) ≡ clear → entry_size ≤ length log
unfolding log_stages
clear_long log N n e = go (clear_only (log_stages log N n) e)
  where
    go : AllPass (log_stages log N n) → entry_size ≤ length log
    go (also h rest) = size_long log (passed_only 0 h)

-- ---- the entries one after the other

module _ {log : List ℕ} {N n : ℕ} where
  pub marks_begin : Marked log N n 0 (replicate slots false)
  marks_begin =
      record {
        long = length-replicate {A = Bool} slots false;
        passed = passed_none;
        noted = λ x h. get_or-replicate {A = Bool} slots x false false h ∙ sym (any_none (λ j. eqb (slot_at log N j) x));
      }

  module _ {k : ℕ} {l : List Bool} (m : Marked log N n k l) where
    pub marks_misplaced : {c x : ℕ} {b : Bool} → k < c → b ≡ misplaced log N n k → b ≡ true → c ≡ x → Some k ≡ found (bad_entry log N n) x
    marks_misplaced h e z q = seek_finds {b = bad_entry log N n k} m.passed h refl (bad_parts log N n k ∙ rw (sym e ∙ z)) q

    module _ {s : ℕ} {b : Bool} (room : N + n ≤ slots) (e : b ≡ misplaced log N n k) (z : b ≡ false) (p : s ≡ slot_at log N k) where
      pub marks_repeat : {c x : ℕ} → k < c → is_marked l s ≡ true → c ≡ x → Some k ≡ found (bad_entry log N n) x
      marks_repeat h q w =
          seek_finds {b = bad_entry log N n k} m.passed h refl (entry_says log N n k l room m (sym e ∙ z) ∙ ap (is_marked l) (sym p) ∙ q) w

      pub marks_go : is_marked l s ≡ false → Marked log N n (k + 1) (set l s true)
      marks_go q = rw p (marks_more log N n k l room m (sym e ∙ z) (ap (is_marked l) (sym p) ∙ q))

      pub marks_room : s < length l
      marks_room = omega (arith, p, m.long, slot_small log N n k room (sym e ∙ z))

    pub marks_end : {c x : ℕ} → c ≤ k → c ≡ x → None ≡ found (bad_entry log N n) x
    marks_end h q = seek_ends m.passed h q

pub ruleset marks = (marks_begin, marks_misplaced, marks_repeat, marks_go, marks_end, marks_room, size_long, count_few, rules)
