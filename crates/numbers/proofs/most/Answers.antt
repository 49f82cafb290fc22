-- `most` meets its contract: the power fits. Assumes nothing.
use Prim.Native.Nat.{◌^◌, ◌*◌, ◌<◌, ◌≤◌}
use native.Mathlib.Nat.{mod-eq_of_lt}
use native.Mathlib.Omega.{arith}
use lib.Pow.{pow_mono}
use Rattle.meaning.specs.Tables.{most}
use Rattle.numbers.proofs.most.Goals as goal

pub returns : goal.returns
unfolding most
returns c =
    let p : 2 ^ c.args.k ≤ 2 ^ 10 = pow_mono {i = c.args.k} {j = 10} c.requires in
    let q : 1 * 2 ^ c.args.k < 4294967296 = omega arith in
    omega (arith, mod-eq_of_lt q)
