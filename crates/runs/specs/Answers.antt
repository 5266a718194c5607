-- What an answer of Run tells, and two answers as one.
use Rattle.std.specs.Prelude.{ℕ, ◌+◌, ◌≡◌, refl, Ok, Err}
use Rattle.std.proofs.Common.{ap, ◌∙◌}
use Rattle.lists.specs.Apart.{apart}
use Rattle.slice_rules.specs.Slices.{Judgement, done, meets, SliceOf, join}
use Rattle.swap_ways.specs.declared.Way.{Way}
use Rattle.swap_ways.specs.declared.Way.TheVariants as way
use Rattle.swap_ways.specs.declared.Lack.{Lack}
use Rattle.swap_ways.specs.declared.Short.{Short}
use Rattle.undo.specs.Stores.{State}
use Rattle.undo.specs.Calls.{Ended}
use Rattle.runs.specs.Run.{RunAnswer, answer_of, told, slice_answer}
use Rattle.runs.specs.declared.Slice.TheVariants.{Done, NoRoom, LogShort, Paused}

-- the swaps that an answer tells; a refusal has made none
abbrev pub swaps_in : RunAnswer → ℕ
swaps_in (Ok (Done swaps left)) = swaps
swaps_in (Ok (NoRoom swaps left lack)) = swaps
swaps_in (Ok (LogShort swaps left short)) = swaps
swaps_in (Ok (Paused swaps left)) = swaps
swaps_in (Err w) = 0

abbrev pub left_in : RunAnswer → ℕ
left_in (Ok (Done swaps left)) = left
left_in (Ok (NoRoom swaps left lack)) = left
left_in (Ok (LogShort swaps left short)) = left
left_in (Ok (Paused swaps left)) = left
left_in (Err w) = 0

-- the answer, with m swaps more
abbrev pub with_more : ℕ → RunAnswer → RunAnswer
with_more m (Ok (Done swaps left)) = Ok (Done (m + swaps) left)
with_more m (Ok (NoRoom swaps left lack)) = Ok (NoRoom (m + swaps) left lack)
with_more m (Ok (LogShort swaps left short)) = Ok (LogShort (m + swaps) left short)
with_more m (Ok (Paused swaps left)) = Ok (Paused (m + swaps) left)
with_more m (Err w) = Err w

-- a run and the one after it as one: the swaps add up, all else is the later one's
abbrev pub as_one : Ended RunAnswer → Ended RunAnswer → Ended RunAnswer
as_one w v = record { answer = with_more (swaps_in w.answer) v.answer; state = v.state }

-- what a slice answers and leaves
unfoldable pub ran_to : SliceOf State Way → Ended RunAnswer
ran_to w = record { answer = slice_answer w; state = w.state }

-- ---- the answer judged on a state left, by its judgement

pub answer_swaps : (m l : ℕ) (j : Judgement Way) → swaps_in (told m l j) ≡ m
unfolding answer_of
answer_swaps m l done = refl
answer_swaps m l (meets (way.NoRoom lack)) = refl
answer_swaps m l (meets (way.LogShort short)) = refl
answer_swaps m l (meets way.Clear) = refl

pub answer_left : (m l : ℕ) (j : Judgement Way) → left_in (told m l j) ≡ l
unfolding answer_of
answer_left m l done = refl
answer_left m l (meets (way.NoRoom lack)) = refl
answer_left m l (meets (way.LogShort short)) = refl
answer_left m l (meets way.Clear) = refl

answer_more : (i m l : ℕ) (j : Judgement Way) → with_more i (told m l j) ≡ told (i + m) l j
unfolding answer_of
answer_more i m l done = refl
answer_more i m l (meets (way.NoRoom lack)) = refl
answer_more i m l (meets (way.LogShort short)) = refl
answer_more i m l (meets way.Clear) = refl

pub answer_done : (m l : ℕ) (j : Judgement Way) (a b : ℕ) → told m l j ≡ Ok (Done a b) → (j ≡ done) × (a ≡ m) × (b ≡ l)
unfolding answer_of
answer_done m l done a b e = (refl, (cc), (cc))
answer_done m l (meets (way.NoRoom lack)) a b e = apart (cc)
answer_done m l (meets (way.LogShort short)) a b e = apart (cc)
answer_done m l (meets way.Clear) a b e = apart (cc)

pub answer_paused : (m l : ℕ) (j : Judgement Way) (a b : ℕ) → told m l j ≡ Ok (Paused a b) → (j ≡ meets way.Clear) × (a ≡ m) × (b ≡ l)
unfolding answer_of
answer_paused m l done a b e = apart (cc)
answer_paused m l (meets (way.NoRoom lack)) a b e = apart (cc)
answer_paused m l (meets (way.LogShort short)) a b e = apart (cc)
answer_paused m l (meets way.Clear) a b e = (refl, (cc), (cc))

pub answer_no_room : (m l : ℕ) (j : Judgement Way) (a b : ℕ) (lack : Lack) → told m l j ≡ Ok (NoRoom a b lack)
    → (j ≡ meets (way.NoRoom lack)) × (a ≡ m) × (b ≡ l)
unfolding answer_of
answer_no_room m l done a b lack e = apart (cc)
answer_no_room m l (meets (way.NoRoom lack')) a b lack e = let p : lack' ≡ lack = cc in (ap (λ z. meets (way.NoRoom z)) p, (cc), (cc))
answer_no_room m l (meets (way.LogShort short)) a b lack e = apart (cc)
answer_no_room m l (meets way.Clear) a b lack e = apart (cc)

pub answer_log_short : (m l : ℕ) (j : Judgement Way) (a b : ℕ) (short : Short) → told m l j ≡ Ok (LogShort a b short)
    → (j ≡ meets (way.LogShort short)) × (a ≡ m) × (b ≡ l)
unfolding answer_of
answer_log_short m l done a b short e = apart (cc)
answer_log_short m l (meets (way.NoRoom lack)) a b short e = apart (cc)
answer_log_short m l (meets (way.LogShort short')) a b short e = let p : short' ≡ short = cc in (ap (λ z. meets (way.LogShort z)) p, (cc), (cc))
answer_log_short m l (meets way.Clear) a b short e = apart (cc)

-- two slices told as one are the runs told as one
pub ran_join : (w v : SliceOf State Way) → as_one (ran_to w) (ran_to v) ≡ ran_to (join w v)
unfolding ran_to join
ran_join w v =
    let earlier : RunAnswer = slice_answer w in
    let later : RunAnswer = slice_answer v in
    let a : with_more (swaps_in earlier) later ≡ told (w.swaps + v.swaps) v.left v.judgement =
    ap (λ m. with_more m later) (answer_swaps w.swaps w.left w.judgement) ∙ answer_more w.swaps v.swaps v.left v.judgement in
    ap (λ z. record { answer = z; state = v.state }) a
