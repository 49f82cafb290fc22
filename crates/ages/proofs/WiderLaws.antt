-- Trees over more levels than they ask, and a node with its bit set. Assumes nothing.
use Prim.Native.Nat.{ℕ, suc, ◌≤◌, ◌<◌}
use mathlib.Core.Path.{◌≡◌, ap, ◌∙◌}
use mathlib.Core.Bool.{Bool, cond}
use mathlib.Core.List.{List, map}
use native.Mathlib.Omega.{arith}
use lib.ListN.{length, get_or, length-map, get_or-map}
use lib.Seq.{ext_get_or}
use Rattle.trees.specs.Bits.{Bits, Function, Asks, put}
use Rattle.trees.specs.Tree.{Tree, off, on, node, eval, Fine, tree_of}
use Rattle.trees.specs.Table.{at, ref_of}
use Rattle.trees.proofs.BitsLaws.{put_own, put_other, asks_wider}
use Rattle.trees.proofs.TreeLaws.{eval_agree}
use Rattle.trees.proofs.FunctionLaws.{eval_of, fine_of, tree_one}
use Rattle.trees.proofs.TableLaws.{Has}
use Rattle.trees.proofs.ShowLaws.{ref_whole}

pub fine_wider : (lo hi h : ℕ) (d : Tree) → hi ≤ h → Fine lo hi d → Fine lo h d
unfolding Fine
fine_wider lo hi h off q f = f
fine_wider lo hi h on q f = f
fine_wider lo hi h (node l a b) q f = (f.0, omega (arith, f.1), fine_wider (suc l) hi h a q f.2, fine_wider (suc l) hi h b q f.3, f.4)

-- over more levels the tree is the same
pub tree_wider : (m n : ℕ) (g : Function) → m ≤ n → Asks 0 m g → tree_of n g ≡ tree_of m g
tree_wider m n g h a = tree_one n g (asks_wider 0 m 0 n g (omega arith) h a) (tree_of m g) (fine_wider 0 m n (tree_of m g) h (fine_of m g)) (eval_of m g a)

-- the sides of a node, with its bit set
pub side_says : (hi m : ℕ) (a b : Tree) (y : Bool) → Fine (suc m) hi a → Fine (suc m) hi b → (s : Bits) → eval (node m a b) (put s m y) ≡ cond y (eval b s) (eval a s)
unfolding eval
side_says hi m a b y fa fb s = rw (put_own s m y, past a fa, past b fb)
  where
    past : (d : Tree) → Fine (suc m) hi d → eval d (put s m y) ≡ eval d s
    past d f = eval_agree (suc m) hi d f (put s m y) s (λ i h k. put_other s m y i (λ e. omega arith))

-- the references of trees that are in a table lead back to them
pub refs_back : (ts es : List Tree) → ((i : ℕ) → i < length es → Has ts (get_or es i off)) → map (at ts) (map (ref_of ts) es) ≡ es
unfolding at ref_of
refs_back ts es h =
    ext_get_or off (map (at ts) (map (ref_of ts) es)) es (rw (length-map, length-map)) (λ i k.
    get_or-map (at ts) (map (ref_of ts) es) i 0 ∙ ap (at ts) (get_or-map (ref_of ts) es i off) ∙ (ref_whole ts (get_or es i off) (h i (rw (length-map, length-map) at k))).is)
