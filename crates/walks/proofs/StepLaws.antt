-- What a node of a reduced ordered diagram gives a walk. Assumes nothing.
use Prim.Native.Nat.{ℕ, suc, ◌-◌, ◌≤◌, ◌<◌}
use mathlib.Core.Path.{◌≡◌, refl}
use mathlib.Core.Bool.{true, false}
use mathlib.Core.List.{List}
use native.Mathlib.Omega.{arith}
use Rattle.trees.specs.Tree.{Tree, Fine}
use Rattle.trees.specs.Table.{at, trees_of}
use Rattle.trees.proofs.TreeLaws.{side, side_own, fine_lower, fine_node, node_fine}
use Rattle.nodes.specs.Nodes.{Splits, Grown}
use Rattle.nodes.proofs.ReadLaws.{grown_count}
use Rattle.making.proofs.WalkLaws.{kept}
use Rattle.walks.specs.Walks.{Within}

-- a reference of before still asks the same levels
pub within_grown : {ns ms : List ℕ} {n m r : ℕ} {d : Tree} {levels left p : ℕ} → Grown ns ms n m r d → Within ns n levels left p → Within ms m levels left p
within_grown {p = p} g w = record { below = omega (arith, w.below, grown_count g); fine = rw (kept g p w.below) w.fine }

-- a level is left, the sides ask the levels after it, and they are the sides of the diagram there
pub record Step (ns : List ℕ) (n levels left p l a b : ℕ) : Type 0 where
  pub some : 1 ≤ left
  pub level : l < levels
  pub whole : Fine l levels (at (trees_of ns n) p)
  pub low : Within ns n levels (left - 1) a
  pub high : Within ns n levels (left - 1) b
  pub low_side : side l false (at (trees_of ns n) p) ≡ at (trees_of ns n) a
  pub high_side : side l true (at (trees_of ns n) p) ≡ at (trees_of ns n) b

-- a node goes down one level
pub steps : {ns : List ℕ} {n levels left p l a b : ℕ} → left ≤ levels → Within ns n levels left p → Splits ns n p l a b → Step ns n levels left p l a b
steps {ns} {n} {levels} {left} {p} {l} {a} {b} h w s =
    let f = node_fine (levels - left) levels l _ _ (rw s.is at w.fine) in
    let lo : levels - (left - 1) ≤ suc l = omega arith in
    record {
      some = omega arith;
      level = f.1;
      whole = rw s.is (fine_node l levels l (at (trees_of ns n) a) (at (trees_of ns n) b) (omega arith) f.1 f.2 f.3 f.4);
      low = record { below = s.low; fine = fine_lower (suc l) levels _ _ lo f.2 };
      high = record { below = s.high; fine = fine_lower (suc l) levels _ _ lo f.3 };
      low_side = rw s.is (side_own l l false _ _ refl);
      high_side = rw s.is (side_own l l true _ _ refl);
    }
