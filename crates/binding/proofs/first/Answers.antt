use mathlib.Core.Path.{◌≡◌, refl, ◌∙◌}
use Prim.Native.Nat.{◌*◌}
use native.Mathlib.Omega.{arith}
use Rattle.trees.specs.Table.{at, trees_of}
use Rattle.binding.proofs.FirstLaws.{not_no, going_none, going_same, going_more, going_first}
use Rattle.binding.proofs.first.Goals as goal

pub loop-j-init : goal.loop-j-init
loop-j-init c =
    let d = at (trees_of c.args.nodes.slice.now c.args.nodes.count) c.args.p in
    (record { eq = λ i h. refl }, going_none d c.args.k c.args.order.now c.args.count (4 * c.args.k) c.requires.fine (not_no c.args.nodes.table c.requires.p_nonzero.0 c.requires.p_nonzero.1))

pub loop-j-preserved : goal.loop-j-preserved
loop-j-preserved c =
    let v = c.loop-j.invariant in
    let e = c.least-n.ensures in
    (record { eq = λ i q. e.rest.eq i q ∙ v.0.eq i q }, going_more c.requires.k_bound.3 c.loop-j-test.true c.requires.k_bound.1 v.1 e.fixes)

pub returns-clause-first : goal.returns-clause-first
returns-clause-first c =
    let e : c.loop-j.j ≡ c.args.count = omega arith in
    going_first (4 * c.args.k) c.requires.fine (going_same e c.loop-j.invariant.1)
