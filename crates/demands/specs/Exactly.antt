-- P exactly where Q: where Q holds and nowhere else.
pub record Exactly (P Q : Type 0) : Type 0 where
  pub wherever : Q → P
  pub only : P → Q
