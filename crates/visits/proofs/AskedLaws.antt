-- What the complement and the sweep ask of a diagram: what they give for leaves, and for a node by its sides. Assumes nothing.
use Prim.Native.Nat.{ℕ, ◌-◌}
use mathlib.Core.Path.{◌≡◌, refl, sym, ap, ap₂, ◌∙◌}
use mathlib.Core.Bool.{Bool, true, false, not}
use mathlib.Core.List.{List}
use native.Mathlib.Omega.{arith}
use Rattle.trees.specs.Bits.{put}
use Rattle.trees.specs.Tree.{Tree, off, on, node, eval, Fine, mk, tree_of, not_t}
use Rattle.trees.specs.Table.{add_tree, at}
use Rattle.trees.proofs.TreeLaws.{side, side_own, eval_side, eval_agree, fine_off, fine_on, node_fine, mk_differ}
use Rattle.trees.proofs.FunctionLaws.{tree_one, tree_same, tree_step}
use Rattle.visits.proofs.AnswerLaws.{Stays, Asked}

-- the complement of a node is made of those of its sides
not_step : (hi lo l : ℕ) (a b : Tree) → Fine lo hi (node l a b) → not_t hi (node l a b) ≡ mk l (not_t hi a) (not_t hi b)
unfolding not_t
not_step hi lo l a b f =
    let g = node_fine lo hi l a b f in
    let f' : Fine l hi (node l a b) = unfold Fine in (omega arith, g.1, g.2, g.3, g.4) in
    tree_step hi l (λ s. not (eval (node l a b) s)) g.1 (record { only = λ s t e. ap not (eval_agree l hi (node l a b) f' s t e) })
    ∙ ap₂ (mk l) (half f' false a (side_own l l false a b refl)) (half f' true b (side_own l l true a b refl))
  where
    half : Fine l hi (node l a b) → (x : Bool) (c : Tree) → side l x (node l a b) ≡ c → tree_of hi (λ s. not (eval (node l a b) (put s l x))) ≡ tree_of hi (λ s. not (eval c s))
    half f x c e = tree_same hi _ _ (λ s. ap not (sym (eval_side l hi x (node l a b) f s) ∙ ap (λ (u : Tree). eval u s) e))

not_off : (hi : ℕ) → not_t hi off ≡ on
unfolding not_t eval
not_off hi = tree_one hi _ (record { only = λ s t e. refl }) on (fine_on 0 hi) (λ s. refl)

not_on : (hi : ℕ) → not_t hi on ≡ off
unfolding not_t eval
not_on hi = tree_one hi _ (record { only = λ s t e. refl }) off (fine_off 0 hi) (λ s. refl)

stays_on : (us : List Tree) (d : Tree) → d ≡ on → Stays us 1 d
stays_on us d e = rw e (unfold add_tree at in record { trees = refl; ref = record { below = omega arith; is = refl } })

stays_off : (us : List Tree) (d : Tree) → d ≡ off → Stays us 0 d
stays_off us d e = rw e (unfold add_tree at in record { trees = refl; ref = record { below = omega arith; is = refl } })

pub complement_asks : (hi : ℕ) → Asked (not_t hi) (λ r. 1 - r) hi
complement_asks hi = record {
  no = λ us. stays_on us (not_t hi off) (not_off hi);
  yes = λ us. stays_off us (not_t hi on) (not_on hi);
  step = not_step hi;
}

pub sweep_asks : (hi : ℕ) → Asked (λ d. d) (λ r. r) hi
sweep_asks hi = record {
  no = λ us. stays_off us off refl;
  yes = λ us. stays_on us on refl;
  step = λ lo l a b f. sym (mk_differ l a b (node_fine lo hi l a b f).4);
}
