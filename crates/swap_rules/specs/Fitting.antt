-- A table in which a swap fits: its records as they are seen through references, and which of them stay as they are.
use Rattle.std.specs.Prelude.{ℕ, ◌≤◌, ◌<◌, true, false, List, ◌≢◌, ◌⊎◌, ◌≡◌, length}
use Rattle.std.proofs.Common.{inl, inr, ap, sym, ◌∙◌}
use Rattle.diagrams.specs.Node.{Node, free, ref}
use Rattle.diagrams.specs.Edition.{Edition, Upright}
use Rattle.swap_rules.specs.Swap.{slots, needed}

-- a table of N records in which the swap of x and y fits
pub record Fitting (E : Edition) (T : ℕ → Node) (N x y : ℕ) (roots : List ℕ) : Type 0 where
  pub differ : x ≢ y
  pub past : (i : ℕ) → N ≤ i → T i ≡ free
  -- a record's own reference is not inverted, and no high reference is
  pub own : (i : ℕ) → i < N → E.inverted (ref i) ≡ false
  pub upright : Upright E T
  pub fit : needed E T N x y ≤ length (slots E T N x y roots)
