-- What a diagram adds to a table are its parts, and no tree is a part of its own sides. Assumes nothing.
use Prim.Native.Nat.{ℕ, zero, suc, ◌+◌, ◌≤◌, ◌<◌}
use mathlib.Core.Path.{◌≡◌, refl}
use mathlib.Core.Bool.{true, false}
use mathlib.Core.List.{List, [], ◌∷◌}
use mathlib.Core.Logic.{◌⊎◌, inl, inr, ⊎_elim}
use native.Mathlib.Omega.{arith}
use lib.ListN.{get_or}
use Rattle.trees.specs.Tree.{Tree, off, on, node}
use Rattle.trees.specs.Table.{mem, add_tree, add_trees}
use Rattle.trees.proofs.Tests.{false_true, not_true}
use Rattle.trees.proofs.TableLaws.{mem_place, place_mem}
use Rattle.trees.proofs.RoomLaws.{Part, whole, low, high, all_adds}

-- the count of a tree's nodes, one for each place where it stands
unfoldable size : Tree → ℕ
size off = 0
size on = 0
size (node l a b) = suc (size a + size b)

-- a part is no larger than the tree
part_size : (s t : Tree) → Part s t → size s ≤ size t
unfolding size
part_size s t whole = omega arith
part_size s t (low {a = a} l b p) = let h = part_size s a p in omega arith
part_size s t (high {b = b} l a p) = let h = part_size s b p in omega arith

-- a node is no part of its low side
no_low : (l : ℕ) (a b : Tree) → Part (node l a b) a → ⊥
unfolding size
no_low l a b p = let h = part_size (node l a b) a p in omega arith

-- nor of its high side
no_high : (l : ℕ) (a b : Tree) → Part (node l a b) b → ⊥
unfolding size
no_high l a b p = let h = part_size (node l a b) b p in omega arith

-- a tree of the table after d was added was there before, or is a part of d
added : (ts : List Tree) (d s : Tree) → mem s (add_tree ts d) ≡ true → (mem s ts ≡ true) ⊎ Part s d
unfolding add_trees
added ts d s e =
    let k = mem_place s (add_tree ts d) e in
    let q = all_adds (λ u. (mem u ts ≡ true) ⊎ Part u d) (d ∷ []) ts (λ j h. inl (place_mem ts j (get_or ts j off) h refl)) only k.0 k.1 in
    rw k.2 at q
  where
    only : (i : ℕ) → i < 1 → (u : Tree) → Part u (get_or (d ∷ []) i off) → (mem u ts ≡ true) ⊎ Part u d
    only zero h u p = inr p
    only (suc i) h u p = absurd (omega arith)

-- a node that is not in a table is not there either once its sides were added
pub sides_only : (ts : List Tree) (l : ℕ) (a b : Tree) → mem (node l a b) ts ≡ false → mem (node l a b) (add_tree (add_tree ts a) b) ≡ false
sides_only ts l a b out = not_true _ (λ e. ⊎_elim
    (λ p. ⊎_elim (λ q. false_true out q) (no_low l a b) (added ts a (node l a b) p))
    (no_high l a b)
    (added (add_tree ts a) b (node l a b) e))
