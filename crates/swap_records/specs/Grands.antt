-- The four grandchildren of a record, as code hands them over.
use Rattle.std.specs.Prelude.{ℕ, ◌<◌, List, ◌≡◌}
use Rattle.diagrams.specs.Node.{ref}
use Rattle.diagrams.specs.Lookup.{lookup}
use Rattle.swap_rules.specs.Swap.{f00, f01, f10, f11}
use Rattle.swap_records.specs.declared.Grandchildren.{Grandchildren}

pub record Grands (t : List ℕ) (y i : ℕ) (g : Grandchildren) : Type 0 where
  pub is00 : g.f00.0 ≡ f00 (lookup t) y (ref i)
  pub is01 : g.f01.0 ≡ f01 (lookup t) y (ref i)
  pub is10 : g.f10.0 ≡ f10 (lookup t) y (ref i)
  pub is11 : g.f11.0 ≡ f11 (lookup t) y (ref i)
  pub small00 : g.f00.0 < 65536
  pub small01 : g.f01.0 < 65536
  pub small10 : g.f10.0 < 65536
  pub small11 : g.f11.0 < 65536
