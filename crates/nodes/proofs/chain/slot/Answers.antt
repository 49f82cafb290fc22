-- `chain::slot` meets its contract. Assumes nothing.
use Prim.Native.Nat.{ℕ, ◌+◌, ◌*◌}
use mathlib.Core.Path.{refl}
use native.Mathlib.Omega.{arith}
use Rattle.nodes.specs.Chains.{spread}
use Rattle.nodes.proofs.ChainLaws.{share_fits, share_below}
use Rattle.nodes.proofs.chain.slot.Goals as goal
use Rattle.nodes.proofs.chain.slot.Goals.{Start}

-- the sum of the three products
mixed : Start → ℕ
mixed c = c.args.a * 625341585 + c.args.b * 668265263 + c.args.c * 374761393

pub overflow_mul-result : goal.overflow_mul-result
unfolding mixed
overflow_mul-result c = omega (arith, share_fits (mixed c) c.args.size c.requires.1)

pub returns : goal.returns
unfolding spread mixed
returns c = record { upper_bound = share_below (mixed c) 4294967296 c.args.size (omega arith) c.requires.0; value = refl }
