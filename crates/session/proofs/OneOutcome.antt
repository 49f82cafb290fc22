-- Two outcomes that keep the promise of a public function are the same. Assumes nothing.
use mathlib.Core.Path.{◌≡◌, sym, ◌∙◌}
use mathlib.Core.List.{List}
use Prim.Native.Nat.{ℕ}
use Rattle.session.specs.declared.After.{After}
use Rattle.session.specs.Lefts.{Begun, Begins, Left, Does}

-- `ready`: what it gives back, and both tables
pub one_ready : (b : Begun) (r t : After) (ns vs ms ws : List ℕ) → Begins b r ns vs → Begins b t ms ws → (r ≡ t) × (ns ≡ ms) × (vs ≡ ws)
one_ready b r t ns vs ms ws p q = (p.after_is ∙ sym q.after_is, p.nodes_are ∙ sym q.nodes_are, p.values_are ∙ sym q.values_are)

-- `line`: what it gives back, and the four tables
pub one_line : (l : Left) (r t : After) (rs ns vs ws rs' ns' vs' ws' : List ℕ) → Does l r rs ns vs ws → Does l t rs' ns' vs' ws'
    → (r ≡ t) × (rs ≡ rs') × (ns ≡ ns') × (vs ≡ vs') × (ws ≡ ws')
one_line l r t rs ns vs ws rs' ns' vs' ws' p q = (
  p.after_is ∙ sym q.after_is,
  p.rows_are ∙ sym q.rows_are,
  p.nodes_are ∙ sym q.nodes_are,
  p.values_are ∙ sym q.values_are,
  p.work_is ∙ sym q.work_is,
)
