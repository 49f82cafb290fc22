-- Two outcomes that keep the promise of `renew` are the same: the nodes, the count, the references and the visits. What it leaves in the
-- first 4 × C numbers of the work slice is not promised. Assumes nothing.
use Prim.Native.Nat.{ℕ}
use mathlib.Core.Path.{◌≡◌, sym, ◌∙◌}
use mathlib.Core.List.{List}
use mathlib.Core.Logic.{⊎_elim}
use lib.Seq.{ext_get_or}
use Rattle.trees.proofs.Tests.{lt_or_ge}
use Rattle.sweeping.specs.Sweeps.{Renewal}

pub one_renewal : (ns : List ℕ) (m levels : ℕ) (refs : List ℕ) (count : ℕ) (w xs ys v u : List ℕ) (k l : ℕ) (rs ss : List ℕ) (i j : ℕ)
    → Renewal ns m levels refs count w xs v k rs i → Renewal ns m levels refs count w ys u l ss j → (xs ≡ ys) × (k ≡ l) × (rs ≡ ss) × (i ≡ j)
one_renewal ns m levels refs count w xs ys v u k l rs ss i j p q = (
  p.numbers ∙ sym q.numbers,
  p.size ∙ sym q.size,
  ext_get_or 0 rs ss (p.references.wide ∙ sym q.references.wide)
      (λ a h. ⊎_elim (λ z. p.references.is a z ∙ sym (q.references.is a z)) (λ z. p.references.none a z ∙ sym (q.references.none a z)) (lt_or_ge a count)),
  sym p.visits ∙ q.visits,
)
