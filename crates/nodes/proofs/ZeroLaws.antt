-- Laws of numbers that are set to 0. Assumes nothing.
use Prim.Native.Nat.{ℕ}
use mathlib.Core.Path.{◌≡◌, sym, ◌∙◌}
use mathlib.Core.List.{List}
use mathlib.Core.Logic.{⊎_elim}
use lib.Seq.{ext_get_or}
use Rattle.trees.proofs.Tests.{lt_or_ge}
use Rattle.nodes.specs.Nodes.{Zeroed}

-- what is left is one list
pub one_zeroed : {from to : ℕ} {xs ys zs : List ℕ} → Zeroed from to xs ys → Zeroed from to xs zs → ys ≡ zs
one_zeroed {from} {to} {xs} {ys} {zs} p q = ext_get_or 0 ys zs (p.size ∙ sym q.size) (λ i h. ⊎_elim
    (λ l. p.same.eq i l ∙ sym (q.same.eq i l))
    (λ l. ⊎_elim
    (λ k. p.zero i l k ∙ sym (q.zero i l k))
    (λ k. p.rest.eq i k ∙ sym (q.rest.eq i k))
    (lt_or_ge i to))
    (lt_or_ge i from))
