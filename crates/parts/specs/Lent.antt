-- What is handed back as a part is the caller's own memory, and the same for the same part.
use Rattle.std.specs.Prelude.{ℕ, ◌+◌, ◌-◌, ◌≤◌, List, ◌⊎◌, ◌≡◌, length, drop}
use Rattle.std.proofs.Common.{ap, sym, ◌∙◌, arith, length-drop, length-take-le}
use Rattle.parts.specs.declared.Part.{Part}
use Rattle.parts.specs.Part.{Inside, bytes_in, no_part, Handed}

pub nothing_inside : {l : List ℕ} → Inside no_part l
nothing_inside = record { begins = omega arith; ends = omega arith }

pub bytes_long : {p : Part} {l : List ℕ} → Inside p l → length (bytes_in p l) ≡ p.1 - p.0
bytes_long {p} {l} h = length-take-le (p.1 - p.0) (drop p.0 l) (simp length-drop (omega (arith, h.begins, h.ends)))

-- bytes of a list in the caller's memory, handed back where they stand: by a pointer into the list's block, moved by an offset; none of them or
-- `size`, and all inside the list
pub record Lent (l : List ℕ) (list pointer : ℕ × ℕ) (offset size : ℕ) (bytes : List ℕ) : Type 0 where
  pub block : pointer.0 ≡ list.0
  pub moved : pointer.1 ≡ offset + list.1
  pub sized : (length bytes ≡ 0) ⊎ (length bytes ≡ size)
  pub within : offset + length bytes ≤ length l

module _ {p : Part} {l : List ℕ} {list : ℕ × ℕ} where
  module _ {pointer : ℕ × ℕ} {bytes : List ℕ} (inside : Inside p l) (s : Handed p l list pointer bytes) where
    pub handed_long : length bytes ≡ p.1 - p.0
    handed_long = ap length s.the_bytes ∙ bytes_long inside

    pub handed_lent : {size : ℕ} → (length bytes ≡ 0) ⊎ (length bytes ≡ size) → Lent l list pointer p.0 size bytes
    handed_lent h = record {
      block = ap (λ (q : ℕ × ℕ). q.0) s.the_pointer;
      moved = ap (λ (q : ℕ × ℕ). q.1) s.the_pointer;
      sized = h;
      within = omega (arith, handed_long, inside.begins, inside.ends);
    }

  -- one outcome: the same bytes at the same place
  pub handed_one : {a b : ℕ × ℕ} {x y : List ℕ} → Handed p l list a x → Handed p l list b y → (a ≡ b) × (x ≡ y)
  handed_one s u = (s.the_pointer ∙ sym u.the_pointer, s.the_bytes ∙ sym u.the_bytes)
