-- What the test of a diagram says: its function, and nothing else, decides it. Assumes nothing.
use Prim.Native.Nat.{ℕ}
use mathlib.Core.Path.{◌≡◌, refl, sym, ap, ◌∙◌}
use mathlib.Core.Bool.{Bool, true, false}
use mathlib.Core.Logic.{◌↔◌}
use Rattle.trees.specs.Bits.{Same, Asks}
use Rattle.trees.specs.Tree.{Tree, eval, same, tree_of, Fine}
use Rattle.trees.proofs.Tests.{iff_eq, false_true}
use Rattle.trees.proofs.BitsLaws.{write}
use Rattle.trees.proofs.TreeLaws.{same_true, same_eq, asks_eval}
use Rattle.trees.proofs.FunctionLaws.{eval_of, tree_same}
use Rattle.nodes.specs.Nodes.{Decides}
use Rattle.telling.specs.Follow.{Untold, untold}
use Rattle.telling.specs.Entries.{Ordered}
use Rattle.telling.proofs.FollowLaws.{write_agree, untold_exact}

module _ (base k n m : ℕ) where
  -- the test decides the claim about the function
  pub untold_decides : (t : Tree) → Ordered 0 t → Decides (Untold base k n m (eval t)) (untold base k n m t)
  untold_decides t o = go (untold base k n m t) (untold_exact base k n m o.levels t o.fine)
    where
      go : (b : Bool) → (b ≡ true) ↔ Untold base k n m (eval t) → Decides (Untold base k n m (eval t)) b
      go true e = e.0 refl
      go false e = λ u. false_true refl (e.1 u)

  -- diagrams that say the same have one answer, wherever they stand
  pub one_answer : (t u : Tree) → Ordered 0 t → Ordered 0 u → Same (eval t) (eval u) → untold base k n m t ≡ untold base k n m u
  one_answer t u o p e =
      let x = untold_exact base k n m o.levels t o.fine in
      let y = untold_exact base k n m p.levels u p.fine in
      iff_eq (untold base k n m t) (untold base k n m u)
      (λ h. y.1 (λ s. sym (e (write s base k n)) ∙ x.0 h s ∙ e (write s base k m)))
      (λ h. x.1 (λ s. e (write s base k n) ∙ y.0 h s ∙ sym (e (write s base k m))))

  -- the function with a number written, over the first hi levels
  asks : (hi j : ℕ) (t : Tree) → Fine 0 hi t → Asks 0 hi (λ s. eval t (write s base k j))
  asks hi j t f = record { only = λ s u h. (asks_eval 0 hi t f).only (write s base k j) (write u base k j) (λ i p q. write_agree s u base k j i (h i p q)) }

  -- the same test, on the trees of the two functions
  pub untold_trees : (hi : ℕ) (t : Tree) → Fine 0 hi t → untold base k n m t ≡ same (tree_of hi (λ s. eval t (write s base k n))) (tree_of hi (λ s. eval t (write s base k m)))
  untold_trees hi t f =
      let x = untold_exact base k n m hi t f in
      iff_eq _ _
      (λ h. same_eq _ _ (tree_same hi (λ s. eval t (write s base k n)) (λ s. eval t (write s base k m)) (x.0 h)))
      (λ h. x.1 (λ s. sym (eval_of hi (λ s. eval t (write s base k n)) (asks hi n t f) s) ∙ ap (λ (u : Tree). eval u s) (same_true _ _ h) ∙ eval_of hi (λ s. eval t (write s base k m)) (asks hi m t f) s))
