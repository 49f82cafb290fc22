-- `run` meets its contract. Assumes nothing.
use Prim.Native.Nat.{◌+◌, ◌*◌}
use native.Mathlib.Omega.{arith}
use Rattle.making.specs.Loans.{made}
use Rattle.aging.specs.Tasks.{does}
use Rattle.aging.proofs.WipeLaws.{plain_within, ageing_dated, wiped, walked}
use Rattle.aging.proofs.walk.run.Goals as goal

pub walk-reference-requires : goal.walk-reference-requires
walk-reference-requires c =
    let p = c.requires.k_bound in
    record { slate = wiped (does c.args.k c.args.task) c.requires.desk c.zero.ensures; k_bound = (p.0, p.1, omega arith, plain_within p.2, plain_within p.3, ageing_dated p.4) }

pub returns-clause-added : goal.returns-clause-added
returns-clause-added c =
    walked (4 * c.args.k + 11) (does c.args.k c.args.task) c.walk-reference.new.lent.nodes.now _ c.requires.desk c.zero.ensures c.zero-2.ensures (made c.walk-reference.new.lent.count c.walk-reference.result) c.walk-reference.ensures.added
