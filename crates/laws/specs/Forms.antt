-- Formulas as the rows of one step work them: from the diagrams of some rows, one row for each and, not and removal.
-- Assumes nothing: these are definitions.
use Rattle.std.specs.Prelude.{ℕ, not, ◌&&◌}
use Rattle.trees.specs.Bits.{Function, drops}
use Rattle.trees.specs.Tree.{Tree, eval, Fine, tree_of}

-- a row that is there; and; not; the removal of some bits from a level on
pub data Form : Type 0 where
  row : Tree → Form
  and : Form → Form → Form
  negated : Form → Form
  without : ℕ → ℕ → Form → Form

-- the diagram of its last row: each row's diagram is made from those of the rows that it names
unfoldable pub worked : ℕ → Form → Tree
worked levels (row d) = d
worked levels (and f g) = tree_of levels (λ s. eval (worked levels f) s && eval (worked levels g) s)
worked levels (negated f) = tree_of levels (λ s. not (eval (worked levels f) s))
worked levels (without base bits f) = tree_of levels (drops base bits (eval (worked levels f)))

-- what it says
unfoldable pub form_says : Form → Function
form_says (row d) s = eval d s
form_says (and f g) s = form_says f s && form_says g s
form_says (negated f) s = not (form_says f s)
form_says (without base bits f) s = drops base bits (form_says f) s

-- its rows that are there have reduced ordered diagrams over the levels
unfoldable pub Formed : ℕ → Form → Type 0
Formed levels (row d) = Fine 0 levels d
Formed levels (and f g) = Formed levels f × Formed levels g
Formed levels (negated f) = Formed levels f
Formed levels (without base bits f) = Formed levels f
