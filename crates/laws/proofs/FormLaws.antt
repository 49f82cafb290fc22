-- The diagram that the rows of a step make of a formula is the diagram of what the formula says. Assumes nothing.
use Prim.Native.Nat.{ℕ}
use mathlib.Core.Path.{◌≡◌, refl, sym, ap, ap₂, ◌∙◌}
use mathlib.Core.Bool.{not, ◌&&◌}
use Rattle.trees.specs.Bits.{Same, Asks}
use Rattle.trees.specs.Tree.{Tree, eval, tree_of}
use Rattle.trees.proofs.BitsLaws.{asks_drops, drops_same}
use Rattle.trees.proofs.TreeLaws.{asks_eval}
use Rattle.trees.proofs.FunctionLaws.{eval_of, tree_one, tree_same}
use Rattle.laws.specs.Forms.{Form, row, and, negated, without, worked, form_says, Formed}

module _ (levels : ℕ) where
  -- it asks only the levels
  asks_form : (f : Form) → Formed levels f → Asks 0 levels (form_says f)
  unfolding form_says Formed
  asks_form (row d) w = record { only = λ s t e. (asks_eval 0 levels d w).only s t e }
  asks_form (and f g) w = record { only = λ s t e. ap₂ ◌&&◌ ((asks_form f w.0).only s t e) ((asks_form g w.1).only s t e) }
  asks_form (negated f) w = record { only = λ s t e. ap not ((asks_form f w).only s t e) }
  asks_form (without base bits f) w = record { only = λ s t e. (asks_drops 0 levels base bits (form_says f) (asks_form f w)).only s t e }

  -- a diagram of what it says, read
  says : (f : Form) → Formed levels f → worked levels f ≡ tree_of levels (form_says f) → Same (eval (worked levels f)) (form_says f)
  says f w e s = ap (λ (d : Tree). eval d s) e ∙ eval_of levels (form_says f) (asks_form f w) s

  -- the diagram is that of what it says
  pub worked_is : (f : Form) → Formed levels f → worked levels f ≡ tree_of levels (form_says f)
  unfolding worked form_says Formed
  worked_is (row d) w = sym (tree_one levels (eval d) (asks_eval 0 levels d w) d w (λ s. refl))
  worked_is (and f g) w = tree_same levels _ _ (λ s. ap₂ ◌&&◌ (says f w.0 (worked_is f w.0) s) (says g w.1 (worked_is g w.1) s))
  worked_is (negated f) w = tree_same levels _ _ (λ s. ap not (says f w (worked_is f w) s))
  worked_is (without base bits f) w = tree_same levels _ _ (drops_same base bits _ _ (says f w (worked_is f w)))
