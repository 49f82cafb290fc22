-- The tree of a function: reduced and ordered, it says what the function says, and it is the only such tree. Assumes nothing.
use Prim.Native.Nat.{ℕ, zero, suc, ◌+◌, ◌-◌, ◌<◌}
use mathlib.Core.Path.{◌≡◌, refl, sym, ap, ap₂, ◌∙◌, fun_ext}
use mathlib.Core.Bool.{Bool, true, false, cond}
use native.Mathlib.Omega.{arith}
use Rattle.trees.specs.Bits.{Bits, Function, Same, Asks, put}
use Rattle.trees.specs.Tree.{Tree, eval, Fine, mk, tree_from, tree_of}
use Rattle.trees.proofs.BitsLaws.{put_back, asks_put, asks_wider}
use Rattle.trees.proofs.TreeLaws.{eval_mk, fine_mk, fine_lower, fine_leaf, eval_leaf, canon}

-- the two sides of a function at a level, joined, are the function
pub join : (lo hi v : ℕ) (g : Function) → Asks lo hi g → (s : Bits) → cond (s v) (g (put s v true)) (g (put s v false)) ≡ g s
join lo hi v g a s = go (s v) refl
  where
    go : (b : Bool) → s v ≡ b → cond b (g (put s v true)) (g (put s v false)) ≡ g s
    go true e = a.only (put s v true) s (λ i x y. ap (λ (b : Bool). put s v b i) (sym e) ∙ put_back s v i)
    go false e = a.only (put s v false) s (λ i x y. ap (λ (b : Bool). put s v b i) (sym e) ∙ put_back s v i)

pub fine_from : (n lo hi : ℕ) (g : Function) → hi ≡ lo + n → Fine lo hi (tree_from lo n g)
unfolding tree_from
fine_from zero lo hi g h = fine_leaf lo hi (g (λ _. false))
fine_from (suc n) lo hi g h =
    fine_mk lo hi _ _ (omega arith)
    (fine_from n (suc lo) hi (λ s. g (put s lo false)) (omega arith))
    (fine_from n (suc lo) hi (λ s. g (put s lo true)) (omega arith))

pub eval_from : (n lo hi : ℕ) (g : Function) → hi ≡ lo + n → Asks lo hi g → Same (eval (tree_from lo n g)) g
unfolding tree_from
eval_from zero lo hi g h a s = eval_leaf (g (λ _. false)) s ∙ a.only (λ _. false) s (λ i x y. absurd (omega arith))
eval_from (suc n) lo hi g h a s =
    let half : (x : Bool) → eval (tree_from (suc lo) n (λ t. g (put t lo x))) s ≡ g (put s lo x) = λ x.
    eval_from n (suc lo) hi (λ t. g (put t lo x)) (omega arith) (asks_put lo hi g x a) s in
    eval_mk lo _ _ s ∙ rw (half false, half true) (join lo hi lo g a s)

module _ (n : ℕ) where
  pub fine_of : (g : Function) → Fine 0 n (tree_of n g)
  unfolding tree_of
  fine_of g = fine_from n 0 n g (omega arith)

  pub eval_of : (g : Function) → Asks 0 n g → Same (eval (tree_of n g)) g
  unfolding tree_of
  eval_of g a s = eval_from n 0 n g (omega arith) a s

  -- the one tree of a function
  pub tree_one : (g : Function) → Asks 0 n g → (d : Tree) → Fine 0 n d → Same (eval d) g → tree_of n g ≡ d
  tree_one g a d f e = canon n (tree_of n g) d (fine_of g) f (λ s. eval_of g a s ∙ sym (e s))

  -- functions that say the same have one tree
  pub tree_same : (f g : Function) → Same f g → tree_of n f ≡ tree_of n g
  tree_same f g e = ap (tree_of n) (fun_ext e)

  -- a function that asks no level before v: its tree is made of the trees of its two sides at v
  pub tree_step : (v : ℕ) (g : Function) → v < n → Asks v n g → tree_of n g ≡ mk v (tree_of n (λ s. g (put s v false))) (tree_of n (λ s. g (put s v true)))
  tree_step v g h a =
      tree_one g (asks_wider v n 0 n g (omega arith) (omega arith) a) (mk v (sub false) (sub true))
      (fine_lower v n 0 (mk v (sub false) (sub true)) (omega arith) (fine_mk v n (sub false) (sub true) h (fine false) (fine true)))
      (λ s. eval_mk v (sub false) (sub true) s ∙ rw (says false s, says true s) (join v n v g a s))
      ∙ sym (ap₂ (mk v) (own false) (own true))
    where
      half : Bool → Function
      half b s = g (put s v b)

      sub : Bool → Tree
      sub b = tree_from (suc v) (n - suc v) (half b)

      fine : (b : Bool) → Fine (suc v) n (sub b)
      fine b = fine_from (n - suc v) (suc v) n (half b) (omega arith)

      says : (b : Bool) → Same (eval (sub b)) (half b)
      says b = eval_from (n - suc v) (suc v) n (half b) (omega arith) (asks_put v n g b a)

      own : (b : Bool) → tree_of n (half b) ≡ sub b
      own b =
          tree_one (half b) (asks_wider (suc v) n 0 n (half b) (omega arith) (omega arith) (asks_put v n g b a)) (sub b)
          (fine_lower (suc v) n 0 (sub b) (omega arith) (fine b)) (says b)
