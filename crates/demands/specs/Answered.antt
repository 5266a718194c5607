-- Demand 1: every entry answers on any bytes, with one outcome. A refusal has the number of the first check that fails and the first place where it
-- does, and changes nothing. There is no room exactly where more records would be used afterwards than the table has, which is where more are needed
-- than are free or die; the log is short exactly where there is room, but more entries are needed than it holds; and then nothing changes either.
--
-- `check_of`, `read_of`, `part_of`, `swap_of`, `run_of` and `recover_of` are the outcomes that the contracts of the entries cite. t is the table, r the
-- roots, o the order and g the target, each as the list of its bytes; a state s is a table, an order and a log. An entry's checks are a list:
-- `check_stages`, `read_stages`, `swap_stages`, `run_stages`, `recover_stages`. `FailsFirst` of such a list, with k and p: check k fails at place p, at
-- no place before it, and every check before k passes everywhere. Of Count and of Label the same is said in `Counted` and in `Labelled`.
use Rattle.std.specs.Prelude.{ℕ, ◌+◌, ◌≤◌, ◌<◌, Bool, List, [], ◌≡◌, refl, Ok, Err}
use Rattle.std.proofs.Common.{ap, sym, ◌∙◌}
use Rattle.lists.specs.Apart.{apart}
use Rattle.diagrams.specs.Layout.{record_size, records}
use Rattle.plans.specs.Inversions.{left}
use Rattle.plans.specs.Numbered.{plan_of}
use Rattle.checks.specs.Stages.{refusal, FailsFirst}
use Rattle.checks.specs.Check.{CheckAnswer, used, check_stages, check_of, CheckOutcome}
use Rattle.checks.proofs.Theorems as check
use Rattle.checks.specs.declared.Refusal.{Refusal}
use Rattle.checks.specs.declared.Fault.{Fault}
use Rattle.reading.specs.Read.{ReadAnswer, read_stages, read_of, ReadOutcome}
use Rattle.parts.specs.Part.{no_part}
use Rattle.parts.specs.Lent.{Lent}
use Rattle.showing.specs.Show.{part_at, part_of, ShowOutcome}
use Rattle.showing.proofs.Parts as show
use Rattle.showing.specs.Parts.{Nothing, Something}
use Rattle.reading.proofs.Theorems as read
use Rattle.reading.specs.Theorems.{Reads}
use Rattle.swap_rules.specs.Swap.{x_at, y_at}
use Rattle.swap_preparing.specs.Table.{free_in}
use Rattle.undo.specs.Stores.{State}
use Rattle.undo.specs.Calls.{Call, Ended}
use Rattle.undo.specs.Log.{entries_held}
use Rattle.swap_ways.specs.Ways.{lack, short, entries_for, is_clear}
use Rattle.swaps.specs.Outcome.{SwapAnswer, swap_stages, swap_call, swap_of, SwapOutcome}
use Rattle.swaps.proofs.Entry as swap
use Rattle.swap_ways.specs.Room as room
use Rattle.swap_ways.specs.Room.{Needed, Dying, HasRoom, LacksRoom}
use Rattle.swaps.specs.Entry.{AbleOf}
use Rattle.swaps.specs.Bytes.{outnumbers, lacks_slots}
use Rattle.swap_ways.specs.declared.Lack.{Lack}
use Rattle.swap_ways.specs.declared.Short.{Short}
use Rattle.swap_ways.specs.declared.Way.TheVariants as way
use Rattle.runs.specs.OneSwap.{plain_swap}
use Rattle.runs.specs.Run.{RunAnswer, run_stages, run_of, RunOutcome}
use Rattle.runs.specs.Answers.{swaps_in}
use Rattle.runs.proofs.Theorems as run
use Rattle.runs.specs.Theorems.{Startable}
use Rattle.runs.specs.declared.Slice.TheVariants as slice
use Rattle.recovery.specs.Recover.{RecoverAnswer, recover_stages, recover_call, recover_of, RecoverOutcome}
use Rattle.recovery.specs.Theorems as recover
use Rattle.demands.specs.Exactly.{Exactly}

module _ (t r o : List ℕ) where
  -- ---- Check

  -- refused with k at p exactly where check k fails first, at p
  pub check_refused : (k : Fault) (p : ℕ) → Exactly (check_of t r o ≡ Err (refusal k p)) (FailsFirst (check_stages t r o) k p)
  check_refused k p = record { wherever = check.refuses t r o k p; only = check.refuses_only t r o k p }

  pub check_one : {a b : CheckAnswer} → CheckOutcome t r o a → CheckOutcome t r o b → a ≡ b
  check_one = check.check_one t r o

  -- ---- Read

  module _ (position : ℕ) (inputs : List ℕ) where
    pub read_refused : (k : Fault) (p : ℕ) → Exactly (read_of t r o position inputs ≡ Err (refusal k p))
        (FailsFirst (read_stages t r o position inputs) k p)
    read_refused k p = record { wherever = read.read_refuses t r o position inputs k p; only = read.read_refuses_only t r o position inputs k p }

    -- the value b exactly where the table can be used, the position exists, the inputs are n bytes of 0 or 1, and the root there has the value b
    pub read_value : (b : Bool) → Exactly (read_of t r o position inputs ≡ Ok b) (Reads t r o position inputs b)
    read_value b = record { wherever = read.reads_if t r o position inputs; only = read.reads_only t r o position inputs }

    pub read_one : {a b : ReadAnswer} → ReadOutcome t r o position inputs a → ReadOutcome t r o position inputs b → a ≡ b
    read_one = read.read_one t r o position inputs

  -- ---- Show

  module _ (position : ℕ) where
    -- the part is empty exactly for a refused table, no such root, or a constant root
    pub show_nothing : Exactly (part_of t r o position ≡ no_part) (Nothing t r o position)
    show_nothing = record { wherever = show.no_part_if t r o position; only = show.no_part_only t r o position }

    -- otherwise it is the place of the record that the root names, which lies in the table
    pub show_something : (Nothing t r o position → ⊥) → (w : Something t r o position) × (part_of t r o position ≡ part_at w.i)
    show_something n = let w = show.some_part_only t r o position n in (w, show.some_part_if t r o position w)

    -- what is handed back is the caller's own memory: in the table's block, the part's offset after its first byte, 0 or 8 bytes long, and within the table
    pub show_lent : {table pointer : ℕ × ℕ} {bytes : List ℕ} → ShowOutcome t r o position table pointer bytes
        → Lent t table pointer (part_of t r o position).0 record_size bytes
    show_lent s = show.show_lent t r o position s

    pub show_one : (table : ℕ × ℕ) {p q : ℕ × ℕ} {a b : List ℕ} → ShowOutcome t r o position table p a
        → ShowOutcome t r o position table q b → (p ≡ q) × (a ≡ b)
    show_one = show.show_one t r o position

-- ---- Swap

module _ (s : State) (r : List ℕ) (k : ℕ) where
  abbrev t : List ℕ
  t = s.table

  abbrev o : List ℕ
  o = s.order

  -- the entries that the log holds
  abbrev held : ℕ
  held = entries_held s.log

  pub swap_refused : (n : Fault) (p : ℕ) → Exactly ((swap_of s r k).answer ≡ Err (refusal n p)) (FailsFirst (swap_stages t r o s.log k) n p)
  swap_refused n p = record {
    wherever = λ f. ap (λ (c : Call SwapAnswer). c.answer) (swap.swap_refuses s r k n p f);
    only = swap.swap_refuses_only s r k n p;
  }

  -- what isn't refused: a table that can be used, two of its levels, and an empty log of 1 to 4,096 records
  pub swap_starts : ((f : Refusal) → (swap_of s r k).answer ≡ Err f → ⊥) → AbleOf s r k
  swap_starts n = (swap.unrefused s r k (swap_of s r k).answer refl (λ f e. n f e)).0

  -- no room exactly for such a store where more records are needed than are free or die; with the level, needed and free
  pub swap_no_room : (l : Lack) → Exactly ((swap_of s r k).answer ≡ Ok (way.NoRoom l))
      (AbleOf s r k × LacksRoom t r o k × (l ≡ lack k (Needed t o k) (free_in t)))
  swap_no_room l = record {
    wherever = λ w.
        ap (λ (c : Call SwapAnswer). c.answer) (swap.swap_stuck s r k w.0 (lack k (Needed t o k) (free_in t)) (room.lacks_if t r o held k w.1))
        ∙ ap (λ z. Ok (way.NoRoom z)) (sym w.2);
    only = λ e. let (able, w) = swap.lacks_only s r k l e in let (h, q) = room.lacks_then t r o held k l w in (able, h, q);
  }

  -- log short exactly where there is room, but the swap needs more entries than the log holds; with the level, needed and held
  pub swap_log_short : (l : Short) → Exactly ((swap_of s r k).answer ≡ Ok (way.LogShort l))
      (AbleOf s r k × HasRoom t r o k × (held < entries_for t r o k) × (l ≡ short k (entries_for t r o k) held))
  swap_log_short l = record {
    wherever = λ w.
        ap (λ (c : Call SwapAnswer). c.answer)
        (swap.swap_short s r k w.0 (short k (entries_for t r o k) held) (room.short_if t r o held k w.1 w.2))
        ∙ ap (λ z. Ok (way.LogShort z)) (sym w.3);
    only = λ e. let (able, w) = swap.short_only s r k l e in let (h, n, q) = room.short_then t r o held k l w in (able, h, n, q);
  }

  -- made exactly where there is room and the log holds the entries
  pub swap_made : Exactly ((swap_of s r k).answer ≡ Ok way.Clear) (AbleOf s r k × HasRoom t r o k × (entries_for t r o k ≤ held))
  swap_made = record {
    wherever = λ w.
        ap (λ (e : Ended SwapAnswer). e.answer) (swap.swap_clear s r k w.0 (ap is_clear (room.clear_if_fits t r o held k w.1 w.2)));
    only = λ e. let (able, c) = swap.made_only s r k e in let (h, n) = room.clear_then t r o held k c in (able, h, n);
  }

  -- the other reading of the same: the records used before, plus new, less dying, are more than the table has
  pub outnumbered : Exactly (LacksRoom t r o k) (records t + Dying t r o k < used t + Needed t o k)
  outnumbered = record { wherever = lacks_slots t r (x_at o k) (y_at o k); only = outnumbers t r (x_at o k) (y_at o k) }

  -- a swap that isn't made makes no store: refused, without room or with a log too short, it changes no byte
  pub swap_unchanged : ((swap_of s r k).answer ≡ Ok way.Clear → ⊥) → ((swap_call s r k).stores ≡ []) × ((swap_of s r k).state ≡ s)
  swap_unchanged n = (swap.unmade_keeps s r k n, swap.unmade_state s r k n)

  pub swap_one : {a b : SwapAnswer} {s₁ s₂ : State} → SwapOutcome s r k a s₁ → SwapOutcome s r k b s₂ → (a ≡ b) × (s₁ ≡ s₂)
  swap_one = swap.swap_one s r k

-- ---- Run, by the plan with any number

module _ (s : State) (r g : List ℕ) (plan budget : ℕ) where
  -- the answer and the buffers left
  abbrev ran : Ended RunAnswer
  ran = run_of plain_swap plan s r g budget

  abbrev t' : List ℕ
  t' = ran.state.table

  abbrev o' : List ℕ
  o' = ran.state.order

  -- the upper level of the plan's next swap, of the order left, and the entries that the log holds
  abbrev next : ℕ
  next = plan_of plan o' g

  abbrev held' : ℕ
  held' = entries_held ran.state.log

  pub run_refused : (k : Fault) (p : ℕ) → Exactly (ran.answer ≡ Err (refusal k p))
      (FailsFirst (run_stages plain_swap plan s.table r s.order g s.log) k p)
  run_refused k p = record {
    wherever = λ f. ap (λ (c : Call RunAnswer). c.answer) (run.run_refuses plain_swap plan s r g budget k p f);
    only = run.run_refuses_only plain_swap plan s r g budget k p;
  }

  pub run_unchanged : (f : Refusal) → ran.answer ≡ Err f → ran.state ≡ s
  run_unchanged = run.refused_keeps plain_swap plan s r g budget

  -- what isn't refused: a table that can be used, a target that is a permutation of its variables, an empty log, and a number that a plan has
  pub run_starts : ((f : Refusal) → ran.answer ≡ Err f → ⊥) → Startable plain_swap plan s r g
  run_starts = run.run_startable plain_swap plan s r g budget

  -- no room where the order left isn't the target and the plan's next swap needs more records than are free or die; with its level, needed and free
  pub run_no_room : Startable plain_swap plan s r g → (o' ≡ g → ⊥) → LacksRoom t' r o' next
      → ran.answer ≡ Ok (slice.NoRoom (swaps_in ran.answer) (left o' g) (lack next (Needed t' o' next) (free_in t')))
  run_no_room a n h =
      run.run_stuck plain_swap plan s r g a budget n (lack next (Needed t' o' next) (free_in t')) (room.lacks_if t' r o' held' next h)

  -- and only there
  pub run_no_room_only : (m l : ℕ) (k : Lack) → ran.answer ≡ Ok (slice.NoRoom m l k)
      → (o' ≡ g → ⊥) × LacksRoom t' r o' next × (k ≡ lack next (Needed t' o' next) (free_in t'))
  run_no_room_only m l k e =
      let a = run_starts (λ f q. apart (cc)) in
      let (n, w) = run.run_lacks plain_swap plan s r g a budget m l k e in
      let (h, q) = room.lacks_then t' r o' held' next k w in
      (n, h, q)

  -- log short where the order left isn't the target, and the plan's next swap has room but needs more entries than the log holds, budget spent or not
  pub run_log_short : Startable plain_swap plan s r g → (o' ≡ g → ⊥) → HasRoom t' r o' next → held' < entries_for t' r o' next
      → ran.answer ≡ Ok (slice.LogShort (swaps_in ran.answer) (left o' g) (short next (entries_for t' r o' next) held'))
  run_log_short a n h e =
      run.run_short plain_swap plan s r g a budget n (short next (entries_for t' r o' next) held') (room.short_if t' r o' held' next h e)

  -- and only there
  pub run_log_short_only : (m l : ℕ) (k : Short) → ran.answer ≡ Ok (slice.LogShort m l k)
      → (o' ≡ g → ⊥) × HasRoom t' r o' next × (held' < entries_for t' r o' next) × (k ≡ short next (entries_for t' r o' next) held')
  run_log_short_only m l k e =
      let a = run_starts (λ f q. apart (cc)) in
      let (n, w) = run.run_shorts plain_swap plan s r g a budget m l k e in
      let (h, i, q) = room.short_then t' r o' held' next k w in
      (n, h, i, q)

  -- paused only where the order left isn't the target, the plan's next swap fits and the log holds its entries
  pub run_paused_only : (m l : ℕ) → ran.answer ≡ Ok (slice.Paused m l) → (o' ≡ g → ⊥) × HasRoom t' r o' next × (entries_for t' r o' next ≤ held')
  run_paused_only m l e =
      let a = run_starts (λ f q. apart (cc)) in
      let (n, w, b) = run.run_paused plain_swap plan s r g a budget m l e in
      let (h, i) = room.clear_then t' r o' held' next (ap is_clear w) in
      (n, h, i)

  pub run_one : {a b : RunAnswer} {s₁ s₂ : State}
      → RunOutcome plain_swap plan s r g budget a s₁ → RunOutcome plain_swap plan s r g budget b s₂ → (a ≡ b) × (s₁ ≡ s₂)
  run_one = run.run_one plain_swap plan s r g budget

-- ---- Recover

module _ (s : State) where
  pub recover_refused : (n : Fault) (p : ℕ) → Exactly ((recover_of s).answer ≡ Err (refusal n p))
      (FailsFirst (recover_stages s.table s.order s.log) n p)
  recover_refused n p = record {
    wherever = λ f. ap (λ (c : Call RecoverAnswer). c.answer) (recover.recover_refuses s n p f);
    only = recover.recover_refuses_only s n p;
  }

  -- a refusal makes no store
  pub recover_unchanged : (f : Refusal) → (recover_of s).answer ≡ Err f → (recover_call s).stores ≡ []
  recover_unchanged f e =
      ap (λ (c : Call RecoverAnswer). c.stores) (recover.recover_refuses s f.fault f.place (recover.recover_refuses_only s f.fault f.place e))

  pub recover_one : {a b : RecoverAnswer} {s₁ s₂ : State} → RecoverOutcome s a s₁ → RecoverOutcome s b s₂ → (a ≡ b) × (s₁ ≡ s₂)
  recover_one = recover.recover_one s
