-- The passes together say whether the diagrams are well kept. Assumes nothing.
use Prim.Native.Nat.{ℕ, ◌*◌, ◌≤◌, ◌<◌}
use mathlib.Core.Path.{◌≡◌, sym, ap, ◌∙◌}
use mathlib.Core.Bool.{Bool, true, false, ◌&&◌}
use mathlib.Core.List.{List, []}
use native.Mathlib.Omega.{arith}
use lib.ListN.{length, get_or, take, length-map, get_or-map}
use lib.Seq.{length-take-le, get_or-take}
use Rattle.trees.specs.Tree.{Tree, off, on, node}
use Rattle.trees.specs.Table.{add_trees, at, node_at, trees_of}
use Rattle.trees.specs.Kept.{levels, diagrams, WellKept, well_kept}
use Rattle.trees.proofs.Tests.{not_true, and_true_l, and_true_r}
use Rattle.trees.proofs.TableLaws.{at_index}
use Rattle.trees.proofs.RoomLaws.{Part, whole, low, high, all_adds}
use Rattle.trees.proofs.KeptLaws.{kept_of, of_kept}
use Rattle.nodes.specs.Nodes.{Table, Rows, canonical, Decides}
use Rattle.keeping.specs.Checks.{free_by, Inside, ZeroFrom, Right, Apart, InRowOrder, FreeOnly}
use Rattle.trees.proofs.ReadLaws.{length_trees, at_node}
use Rattle.keeping.proofs.FreeLaws.{free_below}
use Rattle.keeping.proofs.SoundLaws.{right_back, sound_table, sound_rows}

-- the passes over references and single nodes hold
pub record Passed (k C count : ℕ) (refs : List ℕ) (kept : ℕ) (ns : List ℕ) : Type 0 where
  pub fits : kept ≤ C
  pub inside : Inside refs count kept
  pub none : ZeroFrom count refs
  pub rest : ZeroFrom (3 * kept) ns
  pub right : Right ns kept (4 * k)
  pub apart : Apart ns kept

-- so the nodes are a table
pub passed_table : {k C count : ℕ} {refs : List ℕ} {kept : ℕ} {ns : List ℕ} → Passed k C count refs kept ns → length ns ≤ 12288 → length ns ≡ 3 * C → Table ns kept
passed_table {k} {kept = kept} {ns} p few size = sound_table ns kept (4 * k) p.right p.apart few (omega (arith, p.fits))

-- and the rows' references lead to reduced ordered diagrams
pub passed_rows : {k C count : ℕ} {refs : List ℕ} {kept : ℕ} {ns : List ℕ} → Passed k C count refs kept ns → count ≤ 64 → Rows ns kept (4 * k) refs count
passed_rows {k} {count = count} {refs} {kept} {ns} p few = sound_rows ns kept (4 * k) p.right p.apart refs count few p.inside

-- the level at the top of a tree is below hi
abbrev TopBelow : ℕ → Tree → Type 0
TopBelow hi off = Unit {0}
TopBelow hi on = Unit {0}
TopBelow hi (node l a b) = l < hi

-- the level of a node is the one at its top
top_node : (hi : ℕ) (s : Tree) (l : ℕ) (a b : Tree) → s ≡ node l a b → TopBelow hi s → l < hi
top_node hi off l a b e t = let z : ◌≡◌ {A = ℕ} 0 1 = cc in absurd (omega arith)
top_node hi on l a b e t = let z : ◌≡◌ {A = ℕ} 0 1 = cc in absurd (omega arith)
top_node hi (node m x y) l a b e t = let z : m ≡ l = cc in omega arith

-- the levels of a part are levels of the tree
part_levels : (p : ℕ → Bool) (t s : Tree) → Part s t → levels p t ≡ true → levels p s ≡ true
unfolding levels
part_levels p t s whole e = e
part_levels p t s (low {a = a} l b q) e = part_levels p a s q (and_true_l (levels p a) (levels p b) (and_true_r (p l) (levels p a && levels p b) e))
part_levels p t s (high {b = b} l a q) e = part_levels p b s q (and_true_r (levels p a) (levels p b) (and_true_r (p l) (levels p a && levels p b) e))

-- a free tree's top is below 4 * k
top_below : (k : ℕ) (allowed : List ℕ) (i : ℕ) → 0 < k → (s : Tree) → levels (free_by k allowed i) s ≡ true → TopBelow (4 * k) s
unfolding levels
top_below k allowed i pos off e = tt
top_below k allowed i pos on e = tt
top_below k allowed i pos (node l a b) e = free_below k allowed i pos l (and_true_l (free_by k allowed i l) (levels (free_by k allowed i) a && levels (free_by k allowed i) b) e)

module _ (k : ℕ) (allowed : List ℕ) (C count : ℕ) (refs : List ℕ) (kept : ℕ) (ns : List ℕ) where
  rows : List Tree
  rows = diagrams ns kept refs count

  row_at_law : (i : ℕ) → i < count → get_or rows i off ≡ at (trees_of ns kept) (get_or refs i 0)
  unfolding rows diagrams at
  row_at_law i h = get_or-map (at (trees_of ns kept)) (take count refs) i 0 ∙ ap (at (trees_of ns kept)) (get_or-take count refs i 0 h)

  -- every level of well kept nodes is below 4 * k, since each node is a part of some row's diagram
  pub kept_right : 0 < k → count ≤ length refs → WellKept (free_by k allowed) C count refs kept ns → Right ns kept (4 * k)
  unfolding rows diagrams node_at
  kept_right pos long w = record { node = w.right; level = λ j h. below j h }
    where
      size : length rows ≡ count
      size = length-map (take count refs) (at (trees_of ns kept)) ∙ length-take-le count refs long

      tops : (j : ℕ) → j < length (add_trees [] rows) → TopBelow (4 * k) (get_or (add_trees [] rows) j off)
      tops = all_adds (TopBelow (4 * k)) rows [] (λ j h. absurd (omega arith)) (λ i h s p.
          let q : i < count = omega (arith, size) in
          top_below k allowed i pos s (part_levels (free_by k allowed i) _ s (rw (row_at_law i q) at p) (w.free_only i q)))

      below : (j : ℕ) → j < kept → get_or ns (3 * j) 0 < 4 * k
      below j h =
          let len = length_trees ns kept in
          let e = sym (at_index (trees_of ns kept) j) ∙ at_node ns kept j (right_back ns kept w.right) h in
          top_node (4 * k) (get_or (trees_of ns kept) j off) (get_or ns (3 * j) 0) _ _ e (rw w.order at (tops j (rw w.order (omega arith))))

  -- a claim of well kept diagrams fails
  pub refused : (WellKept (free_by k allowed) C count refs kept ns → ⊥) → false ≡ well_kept (free_by k allowed) C count refs kept ns
  refused h = sym (not_true (well_kept (free_by k allowed) C count refs kept ns) (λ e. h (kept_of (free_by k allowed) C count refs kept ns e)))

  -- well kept nodes are in canonical order
  pub kept_order : WellKept (free_by k allowed) C count refs kept ns → InRowOrder ns kept refs count
  unfolding canonical
  kept_order w = w.order

  -- all but the last pass hold, and the last decides
  pub verdict : Passed k C count refs kept ns → InRowOrder ns kept refs count → (b : Bool) → Decides (FreeOnly ns kept k allowed refs count) b
      → b ≡ well_kept (free_by k allowed) C count refs kept ns
  unfolding canonical
  verdict p order true d =
      sym (of_kept (free_by k allowed) C count refs kept ns (record {
        fits = p.fits;
        inside = p.inside;
        none = p.none;
        right = p.right.node;
        apart = p.apart;
        order = order;
        free_only = d;
        rest = p.rest;
      }))
  verdict p order false d = refused (λ w. d w.free_only)
