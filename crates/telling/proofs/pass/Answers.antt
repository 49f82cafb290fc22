-- `pass` meets its contract. Assumes nothing.
use mathlib.Core.Path.{refl}
use native.Mathlib.Omega.{arith}
use lib.ListN.{length-set}
use Rattle.nodes.proofs.ReadLaws.{read_below}
use Rattle.telling.specs.Entries.{opened, entered}
use Rattle.telling.proofs.pass.Goals as goal

pub bounds-work-x : goal.bounds-work-x
bounds-work-x c =
    let b = read_below c.args.nodes.table c.read-x.ensures c.requires.0 c.requires.1 in
    omega (arith, b.0, c.requires.2, c.requires.3)

pub bounds-work-x-then-x-base : goal.bounds-work-x-then-x-base
bounds-work-x-then-x-base c =
    let b = read_below c.args.nodes.table c.read-x.ensures c.requires.0 c.requires.1 in
    simp length-set (omega (arith, b.1, c.requires.2, c.requires.3))

pub returns-then-x-base : goal.returns-then-x-base
returns-then-x-base c = opened c.if-work-i-eq0.false _ _ _ c.read-x.ensures c.if-x-base.true refl refl

pub returns : goal.returns
returns c = entered c.if-work-i-eq0.false _ _ _ c.read-x.ensures c.if-x-base.false refl refl
