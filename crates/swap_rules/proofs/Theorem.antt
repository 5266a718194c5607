-- Laws of what specs/Theorem.antt defines.
use Rattle.std.specs.Prelude.{ℕ, ◌+◌, ◌<◌, Bool, cond, List, ◌≡◌, length, get_or}
use Rattle.std.proofs.Math.Bool.{true, false}
use Rattle.std.proofs.Common.{inl, inr, ⊎_elim, sym, ◌∙◌, subst}
use Rattle.std.proofs.Math.Path.{refl, ap}
use Rattle.lists.specs.Says.{Says}
use Rattle.lists.specs.Total.{count_agrees}
use Rattle.lists.specs.Truth.{clash}
use Rattle.diagrams.specs.Node.{Node, free, node, pick, Constant, at, ref, look}
use Rattle.diagrams.specs.Edition.{Edition, plain, seen, Rooted, seen_terminal}
use Rattle.diagrams.specs.Bryant.{Vertex, Bryant}
use Rattle.diagrams.specs.Diagram.{Named, Diagram}
use Rattle.diagrams.proofs.Reduced.{bryant_of, diagram_of, look_ends}
use Rattle.diagrams.specs.Levels.{nonterminal, free_node}
use Rattle.diagrams.specs.Value.{value, Value}
use Rattle.diagrams.specs.Falls.{value_unique, value_is}
use Rattle.orders.specs.Permutation.{level_of}
use Rattle.orders.specs.Exchange.{exchange, length_exchange}
use Rattle.swap_rules.specs.Record.{low_of, high_of, is_free_node, is_used_node, is_of, UsedOf, of_node, of_other, of_free, free_true}
use Rattle.swap_rules.specs.Swap.{x_at, y_at, grandchild, f00, f01, f10, f11, crosses, dies, slots, X, needed, filled}
use Rattle.swap_rules.specs.Swap.{dying_count, used_count, record_after, swapped}
use Rattle.swap_rules.specs.Step.{Side, Open, Kind, kept, crossed, fresh, gone, Step, OneSwap}
use Rattle.swap_rules.proofs.Step.{crosses_x}
use Rattle.swap_rules.proofs.Stays.{crossed_is, x_lives}
use Rattle.swap_rules.proofs.Graph.{swap_again}
use Rattle.swap_rules.proofs.Values.{value_kept, root_kept, side_value, side_cofactor}
use Rattle.swap_rules.specs.Fitting.{Fitting}
use Rattle.swap_rules.proofs.Fitting.{y_stays}
use Rattle.swap_rules.proofs.Computed.{after_kept, computed_step}
use Rattle.swap_rules.proofs.Count.{used_after}
use Rattle.swap_rules.specs.Stored.{Written, SwapFits}
use Rattle.swap_rules.proofs.Stored.{exchange_levels, fitting, swapped_in, swapped_seen, swapped_written}
use Rattle.swap_rules.specs.Theorem.{Cofactors}

-- ---- the theorems

module _ {E : Edition} {t : List Node} {roots ord : List ℕ} {k : ℕ} (S : SwapFits E t roots ord k) where
  abbrev x : ℕ
  x = x_at ord k

  abbrev y : ℕ
  y = y_at ord k

  abbrev n : ℕ
  n = length ord

  -- the table afterwards
  abbrev t' : List Node
  t' = swapped E t x y roots

  abbrev L : ℕ → Node
  L = seen E (at t)

  abbrev L' : ℕ → Node
  L' = seen E (at t')

  abbrev Root : ℕ → Type 0
  Root = Rooted E roots

  abbrev Dies : ℕ → Bool
  Dies = dies E (at t) (length t) x y roots

  abbrev Xt : ℕ → ℕ → ℕ
  Xt = X E (at t) (length t) x y (slots E (at t) (length t) x y roots)

  R : Fitting E (at t) (length t) x y roots
  R = fitting S

  seen_after : L' ≡ seen E (record_after E (at t) (length t) x y roots)
  seen_after = swapped_seen E t x y roots R

  step : Step E.Terminal L L' Root x y Xt Dies
  step = rw seen_after (computed_step R)

  -- a record that does not cross, that no new one goes to and that does not die stays as it is
  pub swap_else : (i : ℕ) → i < length t → crosses L x y (ref i) ≡ false → filled E (at t) (length t) x y roots i ≡ false → Dies (ref i) ≡ false
      → at t' i ≡ at t i
  swap_else i l c g d = swapped_in E t x y roots i l ∙ after_kept R i c g d

  -- the used records are those before, plus new, less dying
  pub swap_count : used_count (at t') (length t) + dying_count E (at t) (length t) x y roots ≡ used_count (at t) (length t) + needed E (at t) (length t) x y
  unfolding used_count
  swap_count =
      ap (λ m. m + dying_count E (at t) (length t) x y roots) (count_agrees _ _ (length t) (λ i l. ap is_used_node (swapped_in E t x y roots i l)))
      ∙ used_after R

  -- what the edition asks of the records holds again
  pub swap_written : Written E t'
  swap_written = swapped_written E t x y roots R

  module _ (D : Diagram E.Terminal L Root (level_of ord) n) where
    W : OneSwap E.Terminal L L' Root (level_of ord) (level_of (exchange ord k)) n k x y Xt Dies
    W = record { ends = seen_terminal E (at t); before = D; levels = exchange_levels ord k S.order S.level; step = step }

    -- a diagram again, under the exchanged order
    pub swap_diagram : Diagram E.Terminal L' Root (level_of (exchange ord k)) (length (exchange ord k))
    swap_diagram = rw (length_exchange ord k) (swap_again W)

    -- every vertex that does not die keeps its value, and so does every root
    pub swap_value : (inputs : ℕ → Bool) (r : ℕ) → Vertex E.Terminal L r → Dies r ≡ false → value L' inputs n r ≡ value L inputs n r
    swap_value inputs r v d = value_kept W inputs r v d

    pub swap_root : (inputs : ℕ → Bool) (j : ℕ) → j < length roots → value L' inputs n (get_or roots j 0) ≡ value L inputs n (get_or roots j 0)
    swap_root inputs j l = root_kept W inputs (get_or roots j 0) (record { index = j; below = l; holds = refl })

    pub cofactors : (r : ℕ) → crosses L x y r ≡ true → Cofactors L L' n x y r
    unfolding f00 f01 f10 f11 low_of high_of
    cofactors r c = record {
      low = Side L y Xt false u.low u.high;
      high = Side L y Xt true u.low u.high;
      is = crossed_is W r u.low u.high u.is c;
      kept = λ inputs. swap_value inputs r (inr (nonterminal u.is)) (x_lives W r u.low u.high u.is);
      low_cofactor = λ inputs. side_cofactor W inputs false r u.low u.high u.is c;
      high_cofactor = λ inputs. side_cofactor W inputs true r u.low u.high u.is c;
      low_is = λ inputs. side_value W inputs r u.low u.high u.is c false ∙ rw u.is (by_x inputs false (inputs x));
      high_is = λ inputs. side_value W inputs r u.low u.high u.is c true ∙ rw u.is (by_x inputs true (inputs x));
    }
      where
        u : UsedOf x (L r)
        u = crosses_x L x y r c

        by_x : (inputs : ℕ → Bool) (d c : Bool) → value L inputs n (grandchild L y d (pick c u.low u.high))
            ≡ cond c (value L inputs n (grandchild L y d u.high)) (value L inputs n (grandchild L y d u.low))
        by_x inputs d true = refl
        by_x inputs d false = refl

    -- what becomes of what dies: it is exactly the y records that are none afterwards, but free or new records
    pub dies_exactly : (r : ℕ) → UsedOf y (L r) → Says (Dies r) (is_of y (L' r) ≡ false)
    dies_exactly r u = go (step.kind r)
      where
        go : Kind E.Terminal L L' x y Xt Dies r → Says (Dies r) (is_of y (L' r) ≡ false)
        go (kept e f d) = record { yes = λ t. clash t d; no = λ n. clash (of_node y (e ∙ u.is)) n }
        go (crossed l h e c e') = clash c (y_stays R r u)
        go (fresh a b c o e s d i) = record { yes = λ t. of_other y e R.differ; no = λ n. opened o }
          where
            opened : Open L Dies r → Dies r ≡ true
            opened (inl z) = free_node z u.is
            opened (inr t) = t
        go (gone t e) = record { yes = λ d. of_free y e; no = λ n. t }

    -- 4.5: a y record from before is free afterwards exactly where no root and no record names it then
    pub freed_exactly : (r : ℕ) → UsedOf y (L r) → Says (is_free_node (L' r)) ((Root r → ⊥) × (Named L' r → ⊥))
    unfolding is_free_node
    freed_exactly r u = record { yes = λ e. (λ m. used_then e (D'.graph.rooted r m), λ m. used_then e (named_then m)); no = λ w. unnamed w (L' r) refl }
      where
        D' : Diagram E.Terminal L' Root (level_of (exchange ord k)) n
        D' = swap_again W

        named_then : Named L' r → Vertex E.Terminal L' r
        named_then m = subst (Vertex E.Terminal L') m.names (D'.graph.closed m.parent m.is m.side)

        used_then : is_free_node (L' r) ≡ true → Vertex E.Terminal L' r → ⊥
        used_then e (inl c) = free_node (seen_terminal E (at t) r c) u.is
        used_then e (inr m) = free_node (free_true (L' r) e) m.is

        unnamed : (Root r → ⊥) × (Named L' r → ⊥) → (m : Node) → L' r ≡ m → is_free_node (L' r) ≡ true
        unnamed w free e = rw e
        unnamed w (node v l h) e = absurd (⊎_elim w.0 w.1 (D'.named r (nonterminal e)))

  -- Bryant's diagram again
  pub swap_bryant : Bryant E.Terminal L Root (level_of ord) n → Bryant E.Terminal L' Root (level_of (exchange ord k)) (length (exchange ord k))
  swap_bryant B = bryant_of (seen_terminal E (at t')) (swap_diagram (diagram_of (seen_terminal E (at t)) B))

-- ---- the plain edition: what a root reads as

module _ {t : List Node} {roots ord : List ℕ} {k : ℕ} (S : SwapFits plain t roots ord k)
    (D : Diagram Constant (look (at t)) (Rooted plain roots) (level_of ord) (length ord)) where
  abbrev T' : ℕ → Node
  T' = look (at (swapped plain t (x_at ord k) (y_at ord k) roots))

  pub swap_reads : (inputs : ℕ → Bool) (j : ℕ) → j < length roots → (v : Bool)
      → Value (look (at t)) inputs (get_or roots j 0) v → Value T' inputs (get_or roots j 0) v
  swap_reads inputs j l v p = rw (read ∙ sym (swap_root S D inputs j l)) (value_is (look_ends _) D'.graph inputs r (D'.graph.rooted r root))
    where
      r : ℕ
      r = get_or roots j 0

      root : Rooted plain roots r
      root = record { index = j; below = l; holds = refl }

      D' : Diagram Constant T' (Rooted plain roots) (level_of (exchange ord k)) (length ord)
      D' = rw (length_exchange ord k) at (swap_diagram S D)

      read : v ≡ value (look (at t)) inputs (length ord) r
      read = value_unique (look_ends (at t)) p (value_is (look_ends (at t)) D.graph inputs r (D.graph.rooted r root))
