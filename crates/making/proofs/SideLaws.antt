-- The first level of a reference, and its sides at a level. Assumes nothing.
use Prim.Native.Nat.{ℕ, zero, suc, ◌+◌, ◌<◌}
use mathlib.Core.Path.{◌≡◌, refl, sym}
use mathlib.Core.Bool.{Bool, true, false}
use mathlib.Core.List.{List}
use native.Mathlib.Omega.{arith}
use Rattle.trees.specs.Tree.{Tree}
use Rattle.trees.specs.Table.{at, trees_of}
use Rattle.trees.proofs.TreeLaws.{side, side_own, side_later}
use Rattle.nodes.specs.Nodes.{Splits, Sides, first_level}

-- a leaf asks no level
pub top_leaf : (ns : List ℕ) (n r : ℕ) → r < 2 → 4294967295 ≡ first_level (at (trees_of ns n) r)
unfolding first_level at
top_leaf ns n zero h = refl
top_leaf ns n (suc zero) h = refl
top_leaf ns n (suc (suc r)) h = absurd (omega arith)

-- a node asks its own level first
pub top_node : {ns : List ℕ} {n r l a b : ℕ} → Splits ns n r l a b → l ≡ first_level (at (trees_of ns n) r)
unfolding first_level
top_node s = rw s.is

-- both sides are the tree itself
alike : {ns : List ℕ} {n r v : ℕ} → r < n + 2 → ((x : Bool) → at (trees_of ns n) r ≡ side v x (at (trees_of ns n) r)) → Sides ns n r v r r
alike h e = record { low = record { below = h; is = e false }; high = record { below = h; is = e true } }

-- the sides of a leaf are the leaf
pub leaf_side : (ts : List Tree) (r : ℕ) → r < 2 → (v : ℕ) (x : Bool) → side v x (at ts r) ≡ at ts r
unfolding side at
leaf_side ts zero h v x = refl
leaf_side ts (suc zero) h v x = refl
leaf_side ts (suc (suc r)) h v x = absurd (omega arith)

-- its references
pub sides_leaf : (ns : List ℕ) (n r v : ℕ) → r < 2 → Sides ns n r v r r
sides_leaf ns n r v h = alike (omega arith) (λ x. sym (leaf_side (trees_of ns n) r h v x))

module _ {ns : List ℕ} {n r l a b : ℕ} (s : Splits ns n r l a b) (v : ℕ) where
  -- the sides of a node at another level
  pub sides_later : (l ≡ v → ⊥) → r < n + 2 → Sides ns n r v r r
  sides_later f h = alike h (λ x. rw (s.is, side_later l v x _ _ f))

  -- the sides of a node at its own level
  pub sides_own : l ≡ v → Sides ns n r v a b
  sides_own e = record {
    low = record { below = s.low; is = rw (s.is, side_own l v false _ _ e) };
    high = record { below = s.high; is = rw (s.is, side_own l v true _ _ e) };
  }
