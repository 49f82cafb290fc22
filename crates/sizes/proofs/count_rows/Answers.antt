use Prim.Native.Nat.{◌<◌}
use native.Mathlib.Omega.{arith}
use Rattle.sizes.proofs.CountingLaws.{left_none, lowest_inside, left_less, left_next}
use Rattle.sizes.proofs.count_rows.Goals as goal

pub loop-w-preserved : goal.loop-w-preserved
loop-w-preserved c =
    let v = c.loop-w.invariant in
    let w = c.loop-w.w in
    let p : 0 < w = omega (arith, c.loop-w-test.true) in
    let z = lowest_inside c.args.base c.args.word w c.args.sizes.now c.loop-w.sizes p v.0 v.1 in
    (omega (arith, v.0, left_less _ _ w _ _ p v.0 v.1), left_next _ _ w _ _ p v.0 v.1 (omega (arith, c.requires.1, c.requires.0)))

pub returns : goal.returns
returns c = left_none _ c.loop-w-test.false c.loop-w.invariant.1
