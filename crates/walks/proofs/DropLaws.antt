-- The steps of a bit's removal. Assumes nothing.
use Prim.Native.Nat.{ℕ, zero, suc, ◌-◌, ◌<◌}
use mathlib.Core.Path.{◌≡◌, sym, ap, ap₂, ◌∙◌, fun_ext}
use mathlib.Core.Bool.{Bool, true, false, or_self, ◌||◌}
use mathlib.Core.List.{List}
use native.Mathlib.Omega.{arith}
use Rattle.trees.specs.Bits.{Bits, put, drop}
use Rattle.trees.specs.Tree.{Tree, off, on, eval, Fine, mk, tree_of, since_t, drop_t}
use Rattle.trees.specs.Table.{at, trees_of}
use Rattle.trees.proofs.BitsLaws.{put_other, put_swap, asks_drop}
use Rattle.trees.proofs.TreeLaws.{side, eval_side, eval_agree, asks_eval, fine_lower, fine_off, fine_on}
use Rattle.trees.proofs.FunctionLaws.{tree_one, tree_same, tree_step}
use Rattle.walks.specs.Walks.{Within}
use Rattle.walks.proofs.StepLaws.{Step}

module _ (levels v : ℕ) where
  -- a tree that does not ask the level
  drop_none : (d : Tree) → Fine 0 levels d → Fine (suc v) levels d → drop_t levels v d ≡ d
  unfolding drop_t drop
  drop_none d f g =
      tree_one levels (drop v (eval d)) (asks_drop 0 levels v (eval d) (asks_eval 0 levels d f)) d f
      (λ s. sym (or_self (eval d s)) ∙ ap₂ ◌||◌ (see s false) (see s true))
    where
      see : (s : Bits) (x : Bool) → eval d s ≡ eval d (put s v x)
      see s x = sym (eval_agree (suc v) levels d g (put s v x) s (λ i h k. put_other s v x i (λ e. omega arith)))

  -- at the level itself: yes and one side, or the other
  drop_own : (d : Tree) → Fine v levels d → drop_t levels v d ≡ since_t levels on (side v false d) (side v true d)
  unfolding drop_t since_t drop eval
  drop_own d f = tree_same levels _ _ (λ s. rw (eval_side v levels false d f s, eval_side v levels true d f s))

  -- before it: both sides without the bit
  drop_sides : (l : ℕ) (d : Tree) → l < v → l < levels → Fine l levels d
      → drop_t levels v d ≡ mk l (drop_t levels v (side l false d)) (drop_t levels v (side l true d))
  unfolding drop_t drop
  drop_sides l d h k f =
      tree_step levels l (drop v (eval d)) k (asks_drop l levels v (eval d) (asks_eval l levels d f))
      ∙ ap₂ (mk l) (half false) (half true)
    where
      see : (x : Bool) (s : Bits) (y : Bool) → eval d (put (put s l x) v y) ≡ eval (side l x d) (put s v y)
      see x s y = ap (eval d) (fun_ext (put_swap s l v x y (λ e. omega arith))) ∙ sym (eval_side l levels x d f (put s v y))

      half : (x : Bool) → tree_of levels (λ s. drop v (eval d) (put s l x)) ≡ tree_of levels (drop v (eval (side l x d)))
      half x = tree_same levels _ _ (λ s. ap₂ ◌||◌ (see x s false) (see x s true))

  -- a leaf has no bit to remove
  pub drop_leaf : (ns : List ℕ) (n p : ℕ) → p < 2 → drop_t levels v (at (trees_of ns n) p) ≡ at (trees_of ns n) p
  unfolding at
  drop_leaf ns n zero h = drop_none off (fine_off 0 levels) (fine_off (suc v) levels)
  drop_leaf ns n (suc zero) h = drop_none on (fine_on 0 levels) (fine_on (suc v) levels)
  drop_leaf ns n (suc (suc p)) h = absurd (omega arith)

  module _ {ns : List ℕ} {n left p l a b : ℕ} (s : Step ns n levels left p l a b) where
    -- a diagram whose first level is later
    pub drop_stay : v < l → drop_t levels v (at (trees_of ns n) p) ≡ at (trees_of ns n) p
    drop_stay h = drop_none (at (trees_of ns n) p) (fine_lower l levels 0 _ (omega arith) s.whole) (fine_lower l levels (suc v) _ h s.whole)

    -- a diagram whose first level is the one
    pub drop_here : l ≡ v → drop_t levels v (at (trees_of ns n) p) ≡ since_t levels (at (trees_of ns n) 1) (at (trees_of ns n) a) (at (trees_of ns n) b)
    unfolding at
    drop_here e = drop_own (at (trees_of ns n) p) (rw (← e) s.whole) ∙ rw (← e, s.low_side, s.high_side)

    -- a diagram whose first level is earlier
    pub drop_node : l < v → drop_t levels v (at (trees_of ns n) p) ≡ mk l (drop_t levels v (at (trees_of ns n) a)) (drop_t levels v (at (trees_of ns n) b))
    drop_node h = drop_sides l (at (trees_of ns n) p) h s.level s.whole ∙ rw (s.low_side, s.high_side)

-- yes asks no level
pub within_sure : (ns : List ℕ) (n levels left : ℕ) → Within ns n levels left 1
unfolding at
within_sure ns n levels left = record { below = omega arith; fine = fine_on (levels - left) levels }
