-- The answer of the walk that counts its visits: the table grows by the result's nodes. Assumes nothing.
use Prim.Native.Nat.{ℕ, suc, ◌+◌, ◌*◌, ◌≤◌, ◌<◌}
use mathlib.Core.Path.{◌≡◌, sym, ap, ap₂, ◌∙◌}
use mathlib.Core.List.{List}
use native.Mathlib.Decide.{ℕ_discrete}
use native.Mathlib.Omega.{arith}
use lib.ListN.{get_or, set, length-set}
use lib.Seq.{get_or-set_same, get_or-set_other}
use Rattle.trees.specs.Tree.{Tree, off, on, node, Fine, mk}
use Rattle.trees.specs.Table.{add_tree, at, ref_of, trees_of, Ref}
use Rattle.trees.proofs.TableLaws.{Goes, Closed, has_add, add_in, add_goes, closed_add, add_mk, goes_ref}
use Rattle.trees.proofs.ReadLaws.{Back, One}
use Rattle.trees.proofs.ShowLaws.{ref_whole}
use Rattle.visits.specs.Visits.{Went, stop, keep, walk, Right, Answered}
use Rattle.visits.proofs.VisitLaws.{walk_all, split}

-- nothing is to be added for d, and r leads to it
pub record Stays (us : List Tree) (r : ℕ) (d : Tree) : Type 0 where
  pub trees : us ≡ add_tree us d
  pub ref : Ref us r d

-- of a diagram is asked F: what leaf says for leaves, and for a node the node of what is asked of its sides
pub record Asked (F : Tree → Tree) (leaf : ℕ → ℕ) (hi : ℕ) : Type 0 where
  pub no : (us : List Tree) → Stays us (leaf 0) (F off)
  pub yes : (us : List Tree) → Stays us (leaf 1) (F on)
  pub step : (lo l : ℕ) (a b : Tree) → Fine lo hi (node l a b) → F (node l a b) ≡ mk l (F a) (F b)

module _ (ns : List ℕ) (m : ℕ) (back : Back ns m) (one : One ns m) {F : Tree → Tree} {leaf : ℕ → ℕ} {hi : ℕ} (asked : Asked F leaf hi) where
  abbrev T : ℕ → Tree
  T r = at (trees_of ns m) r

  right_set : (us : List Tree) (notes : List ℕ) (j r : ℕ) → j < m → Right ns m F us notes → Ref us r (F (T (suc (suc j)))) → Right ns m F us (set notes j (suc r))
  right_set us notes j r h w v = record { long = rw length-set w.long; hit = λ i q k e. go i q k e (ℕ_discrete i j) }
    where
      go : (i q : ℕ) → i < m → get_or (set notes j (suc r)) i 0 ≡ suc q → Dec (i ≡ j) → Ref us q (F (T (suc (suc i))))
      go i q k e (yes z) =
          let l = w.long in
          let f = rw (z, get_or-set_same notes j (suc r) 0 (omega arith)) at e in
          let same : q ≡ r = omega arith in
          rw (z, same) v
      go i q k e (no z) = w.hit i q k (sym (get_or-set_other notes j i (suc r) 0 z) ∙ e)

  right_goes : {us vs : List Tree} {notes : List ℕ} → Goes us vs → Right ns m F us notes → Right ns m F vs notes
  right_goes g w = record { long = w.long; hit = λ j r h e. goes_ref g (w.hit j r h e) }

  apart : (us : List Tree) (j lo : ℕ) (x y : Went) → j < m → Closed us
      → Fine lo hi (node (get_or ns (3 * j) 0) (T (get_or ns (3 * j + 1) 0)) (T (get_or ns (3 * j + 2) 0)))
      → Answered ns m F us (get_or ns (3 * j + 1) 0) x → Answered ns m F x.table (get_or ns (3 * j + 2) 0) y → Answered ns m F us (suc (suc j)) (keep j (get_or ns (3 * j) 0) x y)
  unfolding keep
  apart us j lo x y h cl f px py = record { trees = trees; ref = ref; right = right_set _ y.notes j _ h (right_goes (add_goes y.table d) py.right) ref }
    where
      l : ℕ
      l = get_or ns (3 * j) 0

      a : Tree
      a = T (get_or ns (3 * j + 1) 0)

      b : Tree
      b = T (get_or ns (3 * j + 2) 0)

      d : Tree
      d = mk l (at y.table x.answer) (at y.table y.answer)

      goes : Goes x.table y.table
      goes = rw py.trees (add_goes x.table (F b))

      made : d ≡ mk l (F a) (F b)
      made = ap₂ (mk l) (goes_ref goes px.ref).is py.ref.is

      is : d ≡ F (T (suc (suc j)))
      is = made ∙ sym (ap F (split ns m back one j h) ∙ asked.step lo l a b f)

      trees : add_tree y.table d ≡ add_tree us (F (T (suc (suc j))))
      trees =
          ap₂ add_tree (py.trees ∙ ap (λ (ts : List Tree). add_tree ts (F b)) px.trees) made
          ∙ add_mk us l (F a) (F b) cl
          ∙ ap (add_tree us) (sym made ∙ is)

      ref : Ref (add_tree y.table d) (ref_of (add_tree y.table d) d) (F (T (suc (suc j))))
      ref = let w = ref_whole (add_tree y.table d) d (has_add y.table d) in record { below = w.below; is = w.is ∙ is }

  -- the walk answers what is asked
  pub walk_answers : (left : ℕ) (us : List Tree) (notes : List ℕ) (p lo : ℕ) → p < m + 2 → Fine lo hi (T p) → hi ≤ lo + left
      → Closed us → Right ns m F us notes → Answered ns m F us p (walk leaf ns left us notes p)
  walk_answers =
      walk_all ns m back one leaf hi (λ us notes p w. Closed us → Right ns m F us notes → Answered ns m F us p w)
      (λ us notes cl r. unfold stop at in record { trees = (asked.no us).trees; ref = (asked.no us).ref; right = r })
      (λ us notes cl r. unfold stop at in record { trees = (asked.yes us).trees; ref = (asked.yes us).ref; right = r })
      (λ us notes j r h e cl w. unfold stop in record { trees = sym (add_in us _ cl (r, w.hit j r h e)); ref = w.hit j r h e; right = w })
      (λ us notes j lo x y h e f px py cl w.
      let ax = px cl w in
      apart us j lo x y h cl f ax (py (rw ax.trees (closed_add us _ cl)) ax.right))
