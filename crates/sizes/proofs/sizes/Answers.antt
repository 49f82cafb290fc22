-- `sizes` meets its contract: one pass, or two where there are more than 32 rows. Assumes nothing.
use mathlib.Core.Path.{◌≡◌, refl, ◌∙◌}
use native.Mathlib.Omega.{arith}
use lib.ListN.{replicate}
use borrow.Author.Rules.{rules}
use Rattle.sizes.proofs.SizesLaws.{sized_one, sized_two, first_small}
use Rattle.sizes.proofs.sizes.Goals as goal
use Rattle.sizes.proofs.sizes.Goals.{After-fill}

-- the sizes begin at 0
zeros : (c : After-fill) → c.fill.new.self ≡ replicate 64 0
zeros c = search rules

pub pass-requires-then-count-gt32-clause-sizes_len : goal.pass-requires-then-count-gt32-clause-sizes_len
pass-requires-then-count-gt32-clause-sizes_len c =
    let z = zeros (goal.at.pass-requires-then-count-gt32-clause-sizes_len c).After-fill in
    let e : c.min.result ≡ 32 = omega arith in
    (c.pass.ensures.size ∙ rw z refl, first_small _ _ _ _ c.requires.leading _ _ c.args.nodes.table c.if-count-gt32.true z (rw e at c.pass.ensures))

pub returns-then-count-gt32-clause-sizes_after : goal.returns-then-count-gt32-clause-sizes_after
returns-then-count-gt32-clause-sizes_after c =
    let e : c.min.result ≡ 32 = omega arith in
    sized_two _ _ _ _ c.requires.leading _ _ _ c.if-count-gt32.true (zeros (goal.at.returns-then-count-gt32-clause-sizes_after c).After-fill) (rw e at c.pass.ensures) c.pass-then-count-gt32.ensures

pub returns-else-count-gt32-clause-sizes_after : goal.returns-else-count-gt32-clause-sizes_after
returns-else-count-gt32-clause-sizes_after c =
    let e : c.min.result ≡ c.args.count = omega arith in
    sized_one _ _ _ _ c.requires.leading _ _ (zeros (goal.at.returns-else-count-gt32-clause-sizes_after c).After-fill) (rw e at c.pass.ensures)
