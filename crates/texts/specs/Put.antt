-- A text put on a page: a lent list of bytes that is written from its start on; and the laws of one text after another.
use Rattle.std.specs.Prelude.{ℕ, zero, suc, ◌+◌, ◌≤◌, ◌<◌, List, [], ◌++◌, ◌≡◌, refl, length, take, drop}
use Rattle.std.proofs.Common.{zero-le, append_assoc, append-nil, ⊎_elim, ap, ap₂, sym, ◌∙◌, not-suc-le-zero, eq-or-lt_of_le, le_of_suc-le-suc, arith, rules, length-append, take-append-drop, drop-drop, length-take-le}
use Rattle.std.proofs.Math.Numerals.{add-one}
use Rattle.texts.specs.declared.Page.{Page}
use Rattle.texts.specs.Text.{in_turn}

-- the page was p and is q: the text was put on it. What stood before it and behind it still does, and it is the same memory
pub record Put (p : Page) (text : List ℕ) (q : Page) : Type 0 where
  pub memory : q.bytes.ghost_name ≡ p.bytes.ghost_name
  pub same : length q.bytes.now ≡ length p.bytes.now
  pub moved : q.len ≡ p.len + length text
  pub written : take q.len q.bytes.now ≡ take p.len p.bytes.now ++ text
  pub behind : drop q.len q.bytes.now ≡ drop q.len p.bytes.now

-- the page has space for a text
pub record Space (p : Page) (text : List ℕ) : Type 0 where
  pub fits : p.len + length text ≤ length p.bytes.now

pub put_nothing : {p : Page} → Put p [] p
put_nothing {p} = record { memory = refl; same = refl; moved = omega arith; written = sym (append-nil _); behind = refl }

-- ---- a text that is another one

pub space_as : {p : Page} {t u : List ℕ} → Space p t → t ≡ u → Space p u
space_as h e = rw e at h

pub put_as : {p q : Page} {t u : List ℕ} → Put p u q → t ≡ u → Put p t q
put_as h e = rw e h

-- ---- this text after that text

pub space_first : {p : Page} (t u : List ℕ) → Space p (t ++ u) → Space p t
space_first t u h = record { fits = omega (arith, length-append t u, h.fits) }

pub space_next : {p q : Page} (t u : List ℕ) → Space p (t ++ u) → Put p t q → Space q u
space_next t u h s = record { fits = omega (arith, length-append t u, s.same, s.moved, h.fits) }

pub put_both : {p q r : Page} {t u : List ℕ} → Put p t q → Put q u r → Put p (t ++ u) r
put_both {p} {q} {r} {t} {u} g h = record {
  memory = h.memory ∙ g.memory;
  same = h.same ∙ g.same;
  moved = omega (arith, length-append t u, g.moved, h.moved);
  written = h.written ∙ ap (λ l. l ++ u) g.written ∙ append_assoc (take p.len p.bytes.now) t u;
  behind =
      h.behind
      ∙ rw h.moved (sym (drop-drop (length u) q.len q.bytes.now) ∙ ap (drop (length u)) g.behind ∙ drop-drop (length u) q.len p.bytes.now);
}

-- `search putting` answers every need of a function that puts one text after another
pub ruleset putting = (space_first, space_next, put_both, rules)

-- ---- the texts f 0 to f (m - 1), put by a `for` at i of m

turn_within : (f : ℕ → List ℕ) (m i : ℕ) → i < m → length (in_turn f i) + length (f i) ≤ length (in_turn f m)
unfolding in_turn
turn_within f zero i h = absurd (not-suc-le-zero h)
turn_within f (suc m) i h =
    ⊎_elim
    (λ e. rw e (omega (arith, length-append (in_turn f m) (f m))))
    (λ l. omega (arith, turn_within f m i l, length-append (in_turn f m) (f m)))
    (eq-or-lt_of_le (le_of_suc-le-suc h))

pub record Turns (f : ℕ → List ℕ) (p : Page) (i : ℕ) (q : Page) : Type 0 where
  pub so_far : Put p (in_turn f i) q

pub turns_begin : {f : ℕ → List ℕ} {p : Page} → Turns f p 0 p
unfolding in_turn
turns_begin = record { so_far = put_nothing }

module _ {f : ℕ → List ℕ} {i : ℕ} {p q : Page} (s : Turns f p i q) where
  pub turn_space : {n m : ℕ} {text : List ℕ} → i < n → n ≡ m → Space p (in_turn f m) → text ≡ f i → Space q text
  turn_space {n} {m} l e h t =
      rw t (record { fits = omega (arith, turn_within f m i (rw e at l), s.so_far.same, s.so_far.moved, h.fits) })

  pub turns_go : {r : Page} {text : List ℕ} → Put q text r → text ≡ f i → Turns f p (i + 1) r
  unfolding in_turn
  turns_go h e = record { so_far = rw add-one (put_both s.so_far (rw e at h)) }

  pub turns_end : {m : ℕ} → i ≡ m → Put p (in_turn f m) q
  turns_end e = rw e at s.so_far

-- `search turns` answers every need of such a loop
pub ruleset turns = (turns_begin, turn_space, turns_go, turns_end, rules)

-- ---- a text put at the start

-- the list was a and is b: its first n bytes are the text, and those behind them are what they were
pub record Printed (text a b : List ℕ) (n : ℕ) : Type 0 where
  pub within : n ≤ length b
  pub counts : n ≡ length (take n b)
  pub written : take n b ≡ text
  pub behind : drop n b ≡ drop n a

-- one outcome for each input
pub print_one : {text a b c : List ℕ} {m n : ℕ} → Printed text a b m → Printed text a c n → (m ≡ n) × (b ≡ c)
print_one {text} {a} {b} {c} {m} {n} p q =
    let same : take m b ≡ take n c = p.written ∙ sym q.written in
    let e : m ≡ n = p.counts ∙ ap length same ∙ sym q.counts in
    let rest : drop m b ≡ drop n c = p.behind ∙ ap (λ k. drop k a) e ∙ sym q.behind in
    (e, sym (take-append-drop m b) ∙ ap₂ (λ (x y : List ℕ). x ++ y) same rest ∙ take-append-drop n c)

-- of a page that began empty on the list a, and is q: b is what then stands in the list
pub put_printed : {p q : Page} {a b text : List ℕ} {n : ℕ} → p.len ≡ 0 → p.bytes.now ≡ a → Space p text → Put p text q
    → b ≡ q.bytes.now → n ≡ q.len → Printed text a b n
put_printed {p} {q} {a} {b} {text} {n} z e h s g k =
    let l : q.len ≤ length q.bytes.now = omega (arith, h.fits, s.same, s.moved) in
    let front : take p.len p.bytes.now ++ text ≡ text = rw z refl in
    rw (g, k, ← e) (record { within = l; counts = sym (length-take-le _ _ l); written = s.written ∙ front; behind = s.behind })
