-- `enter` meets its contract: the laws of the pass at each reference, and at the last only leaves are marked. Assumes nothing.
use mathlib.Core.Path.{◌∙◌}
use native.Mathlib.Omega.{arith}
use Rattle.telling.proofs.EntriesLaws.{passing_last}
use Rattle.telling.proofs.PassLaws.{passing_next, passing_rest}
use Rattle.telling.proofs.enter.Goals as goal

pub loop-r-preserved : goal.loop-r-preserved
loop-r-preserved c =
    let l = c.loop-r in
    let h = c.loop-r-test.true in
    let e = c.pass-from.ensures in (
      passing_next c.args.nodes.slice.now c.args.nodes.count c.args.p c.args.base l.work l.r l.from _ _ c.args.nodes.table l.invariant.0 h e,
      record { eq = λ i g. passing_rest c.args.nodes.slice.now c.args.nodes.count c.args.p c.args.base l.work l.r l.from _ _ c.args.nodes.table l.invariant.0 h e i g ∙ l.invariant.1.eq i g },
    )

pub returns-clause-entries : goal.returns-clause-entries
returns-clause-entries c = passing_last c.args.nodes.slice.now c.args.nodes.count c.args.p c.args.base c.loop-r.work c.loop-r.r c.loop-r.from (omega (arith, c.loop-r-test.false)) c.loop-r.invariant.0
