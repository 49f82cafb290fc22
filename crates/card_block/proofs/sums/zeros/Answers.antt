-- `zeros` meets its contract. Assumes nothing.
use Prim.Native.Nat.{ℕ}
use mathlib.Core.Path.{◌≡◌, refl, ap, ◌∙◌}
use mathlib.Core.Bool.{◌&&◌}
use mathlib.Core.List.{List, [], ◌∷◌}
use lib.Dec.{eqb}
use Rattle.std.proofs.Common.{rules, tests}
use Rattle.std.specs.List.{list_all}
use Rattle.std.proofs.lemmas.Iterator.{YieldsList-from_slice}
use Rattle.std.proofs.lemmas.Iterator.Search.{all_from_yields_List}
use Rattle.card_block.specs.Shapes.{unused}
use Rattle.card_block.proofs.sums.zeros.Goals as goal

all_unused : (bs : List ℕ) → list_all (λ (x : ℕ). eqb x 0) bs ≡ unused bs
unfolding unused
all_unused [] = refl
all_unused (b ∷ bs) = ap (λ q. eqb b 0 && q) (all_unused bs)

pub returns : goal.returns
returns c =
    all_from_yields_List (λ (x : ℕ). eqb x 0) _ _ _ c.all.ensures.ran (YieldsList-from_slice c.args.bytes.now cc) (λ x b q k. search (rules, tests))
    ∙ all_unused c.args.bytes.now
