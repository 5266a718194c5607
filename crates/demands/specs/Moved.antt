-- What a swap or a slice leaves: the table and the order as they were, or a table that can be used again, with the same values of its roots.
use Rattle.std.specs.Prelude.{ℕ, ◌<◌, Bool, List, ◌≡◌, refl, length, Ok, Err}
use Rattle.std.proofs.Common.{ap, ap₂, ◌∙◌}
use Rattle.lists.specs.Apart.{apart}
use Rattle.diagrams.specs.Layout.{root_count, root_at}
use Rattle.diagrams.specs.Lookup.{lookup}
use Rattle.diagrams.specs.Value.{value}
use Rattle.orders.specs.Exchange.{length_exchange}
use Rattle.checks.specs.Usable.{Usable}
use Rattle.checks.specs.declared.Refusal.{Refusal}
use Rattle.undo.specs.Stores.{State}
use Rattle.undo.specs.Calls.{Ended}
use Rattle.swap_ways.specs.declared.Way.TheVariants as way
use Rattle.swaps.specs.Outcome.{SwapAnswer, swap_of}
use Rattle.swaps.proofs.Entry.{made_only, made_is, made_usable, made_root_value, unmade_state}
use Rattle.runs.specs.OneSwap.{plain_swap}
use Rattle.runs.specs.Run.{RunAnswer, run_of}
use Rattle.runs.proofs.Theorems.{run_startable, run_usable, run_long, run_root_value, refused_keeps}
use Rattle.runs.specs.declared.Slice.TheVariants as slice

-- two tables that can be used, with the same roots, orders of as many variables, and the same value of every root
pub record Alike (r t o t' o' : List ℕ) : Type 0 where
  pub before : Usable t r o
  pub after : Usable t' r o'
  pub long : length o' ≡ length o
  pub same : (inputs : ℕ → Bool) (position : ℕ) → position < root_count r
      → value (lookup t') inputs (length o) (root_at r position) ≡ value (lookup t) inputs (length o) (root_at r position)

pub data Moved (r t o t' o' : List ℕ) : Type 0 where
  unchanged : t' ≡ t → o' ≡ o → Moved r t o t' o'
  alike : Alike r t o t' o' → Moved r t o t' o'

-- what is told of alike tables alike is told of moved ones alike
pub moved_same : {A : Type 0} (tell : List ℕ → List ℕ → A) {r t o t' o' : List ℕ} → (Alike r t o t' o' → tell t' o' ≡ tell t o)
    → Moved r t o t' o' → tell t' o' ≡ tell t o
moved_same tell f (unchanged p q) = ap₂ tell p q
moved_same tell f (alike a) = f a

-- of two states, of which the log doesn't matter
abbrev pub MovedTo : List ℕ → State → State → Type 0
MovedTo r s s' = Moved r s.table s.order s'.table s'.order

still : {r : List ℕ} {s s' : State} → s' ≡ s → MovedTo r s s'
still e = unchanged (ap (λ (z : State). z.table) e) (ap (λ (z : State). z.order) e)

module _ (s : State) (r : List ℕ) (k : ℕ) where
  swap_kept : ((swap_of s r k).answer ≡ Ok way.Clear → ⊥) → MovedTo r s (swap_of s r k).state
  swap_kept n = still (unmade_state s r k n)

  swap_by : (a : SwapAnswer) → (swap_of s r k).answer ≡ a → MovedTo r s (swap_of s r k).state
  swap_by (Ok way.Clear) e = alike (record {
    before = (made_only s r k e).0.usable;
    after = made_usable s r k e;
    long = ap (λ (w : Ended SwapAnswer). length w.state.order) (made_is s r k e) ∙ length_exchange s.order k;
    same = made_root_value s r k e;
  })
  swap_by (Ok (way.NoRoom l)) e = swap_kept (λ m. apart (cc))
  swap_by (Ok (way.LogShort l)) e = swap_kept (λ m. apart (cc))
  swap_by (Err f) e = swap_kept (λ m. apart (cc))

  -- any swap of any bytes
  pub swap_moved : MovedTo r s (swap_of s r k).state
  swap_moved = swap_by (swap_of s r k).answer refl

module _ (plan : ℕ) (s : State) (r g : List ℕ) (budget : ℕ) where
  abbrev ran : Ended RunAnswer
  ran = run_of plain_swap plan s r g budget

  run_started : ((f : Refusal) → ran.answer ≡ Err f → ⊥) → MovedTo r s ran.state
  run_started n =
      let starts = run_startable plain_swap plan s r g budget n in
      alike (record {
        before = starts.ready.usable;
        after = run_usable plain_swap plan s r g starts budget;
        long = run_long plain_swap plan s r g starts budget;
        same = run_root_value plain_swap plan s r g starts budget;
      })

  run_by : (a : RunAnswer) → ran.answer ≡ a → MovedTo r s ran.state
  run_by (Err f) e = still (refused_keeps plain_swap plan s r g budget f e)
  run_by (Ok (slice.Done m l)) e = run_started (λ f q. apart (cc))
  run_by (Ok (slice.NoRoom m l k)) e = run_started (λ f q. apart (cc))
  run_by (Ok (slice.LogShort m l k)) e = run_started (λ f q. apart (cc))
  run_by (Ok (slice.Paused m l)) e = run_started (λ f q. apart (cc))

  -- any slice of any bytes
  pub run_moved : MovedTo r s ran.state
  run_moved = run_by ran.answer refl
