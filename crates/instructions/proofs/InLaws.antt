-- Trees that are those of listed functions, and tables that have them. Assumes nothing.
use Prim.Native.Nat.{ℕ, zero, suc, ◌<◌}
use mathlib.Core.Path.{◌≡◌, refl, sym, subst, ◌∙◌}
use mathlib.Core.List.{List, [], ◌∷◌, ◌++◌, map}
use mathlib.Core.Logic.{◌⊎◌, inl, inr, ⊎_elim}
use native.Mathlib.Omega.{arith}
use lib.ListN.{length, get_or}
use Rattle.trees.specs.Bits.{Function}
use Rattle.trees.specs.Tree.{Tree, off, eval, tree_of}
use Rattle.trees.specs.Table.{add_tree, add_trees}
use Rattle.trees.proofs.TreeLaws.{asks_eval}
use Rattle.trees.proofs.FunctionLaws.{tree_one}
use Rattle.trees.proofs.TableLaws.{Has, Closed, adds_goes, goes_has, has_add}
use Rattle.trees.proofs.RoomLaws.{All, all_adds, part_has}
use Rattle.meaning.proofs.StepLaws.{AllFine}

-- the tree is that of one of the functions
abbrev pub In : ℕ → Tree → List Function → Type 0
In n t [] = ⊥
In n t (f ∷ fs) = (tree_of n f ≡ t) ⊎ In n t fs

module _ (n : ℕ) (t : Tree) where
  pub in_l : (fs gs : List Function) → In n t fs → In n t (fs ++ gs)
  in_l [] gs h = absurd h
  in_l (f ∷ fs) gs (inl e) = inl e
  in_l (f ∷ fs) gs (inr h) = inr (in_l fs gs h)

  pub in_r : (fs gs : List Function) → In n t gs → In n t (fs ++ gs)
  in_r [] gs h = h
  in_r (f ∷ fs) gs h = inr (in_r fs gs h)

  pub in_split : (fs gs : List Function) → In n t (fs ++ gs) → In n t fs ⊎ In n t gs
  in_split [] gs h = inr h
  in_split (f ∷ fs) gs (inl e) = inl (inl e)
  in_split (f ∷ fs) gs (inr h) = ⊎_elim (λ x. inl (inr x)) (λ x. inr x) (in_split fs gs h)

  -- a table has the trees that were added
  pub has_in : (fs : List Function) (ts : List Tree) → In n t fs → Has (add_trees ts (map (tree_of n) fs)) t
  unfolding add_trees
  has_in [] ts h = absurd h
  has_in (f ∷ fs) ts (inl e) = goes_has (adds_goes (map (tree_of n) fs) (add_tree ts (tree_of n f))) (subst (λ (d : Tree). Has (add_tree ts (tree_of n f)) d) e (has_add ts (tree_of n f)))
  has_in (f ∷ fs) ts (inr h) = has_in fs (add_tree ts (tree_of n f)) h

pub in_at : (n : ℕ) (fs : List Function) (i : ℕ) → i < length (map (tree_of n) fs) → In n (get_or (map (tree_of n) fs) i off) fs
in_at n [] i h = absurd (omega arith)
in_at n (f ∷ fs) zero h = inl refl
in_at n (f ∷ fs) (suc i) h = inr (in_at n fs i (omega arith))

-- the diagrams of a table are in another, where those that it was made from are
pub all_in : (n : ℕ) (us : List Tree) → Closed us → (fs : List Function) (ts : List Tree) → All (Has us) ts → ((t : Tree) → In n t fs → Has us t) → All (Has us) (add_trees ts (map (tree_of n) fs))
all_in n us cl fs ts h q = all_adds (Has us) (map (tree_of n) fs) ts h λ i l s p. part_has us cl (get_or (map (tree_of n) fs) i off) s p (q _ (in_at n fs i l))

-- fine diagrams are those of their functions
pub fine_in : (n : ℕ) (ts : List Tree) → AllFine n ts → (i : ℕ) → i < length ts → In n (get_or ts i off) (map eval ts)
fine_in n [] w i h = absurd (omega arith)
fine_in n (t ∷ ts) w zero h = inl (tree_one n (eval t) (asks_eval 0 n t (w 0)) t (w 0) λ s. refl)
fine_in n (t ∷ ts) w (suc i) h = inr (fine_in n ts (λ j. w (suc j)) i (omega arith))

pub in_fine : (n : ℕ) (ts : List Tree) → AllFine n ts → (t : Tree) → In n t (map eval ts) → (i : ℕ) × (i < length ts) × (get_or ts i off ≡ t)
in_fine n [] w t h = absurd h
in_fine n (d ∷ ts) w t (inl e) = (0, omega arith, sym (tree_one n (eval d) (asks_eval 0 n d (w 0)) d (w 0) λ s. refl) ∙ e)
in_fine n (d ∷ ts) w t (inr h) = let x = in_fine n ts (λ j. w (suc j)) t h in (suc x.0, (let y = x.1 in omega arith), x.2)
