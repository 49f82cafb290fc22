-- `well_formed` meets its contract: one law for each case. Assumes nothing.
use mathlib.Core.Path.{ap, sym, ◌∙◌}
use mathlib.Core.Bool.{not}
use native.Mathlib.Omega.{arith}
use Rattle.stepping.proofs.ClearLaws.{filled}
use Rattle.stepping.proofs.CaseLaws.{cleared_after, unfit_tells, bad_tells, good_tells}
use Rattle.stepping.proofs.well_formed.Goals as goal

pub returns-then-not-fit : goal.returns-then-not-fit
returns-then-not-fit c =
    let s = c.args in
    unfit_tells s.k s.count s.allowed.now s.refs.now s.sizes.now s.kept s.nodes.now s.work.now c.fit.result c.fit.ensures (ap not c.if-not-fit.true)

pub kept_right-good-requires : goal.kept_right-good-requires
kept_right-good-requires c =
    let f = rw c.if-not-fit.false at c.fit.ensures in
    (f, c.requires.0, c.requires.1)

pub returns-then-good : goal.returns-then-good
returns-then-good c =
    let s = c.args in
    let done = c.kept_right-good in
    let f = rw c.if-not-fit.false at c.fit.ensures in
    good_tells s.k s.count s.allowed.now s.refs.now s.sizes.now s.kept s.nodes.now s.work.now f
    (cleared_after s.k s.count s.allowed.now s.refs.now s.sizes.now s.kept s.nodes.now s.work.now f done.ensures.check_leaves.rest done.auto.work (filled 0 _ _ _ (omega arith) (omega (arith, f.room, done.auto.work)) (c.fill.ensures.after (λ y h. h))))
    (sym done.ensures.value ∙ c.if-good.true)

pub returns-else-good : goal.returns-else-good
returns-else-good c =
    let s = c.args in
    let done = c.kept_right-good in
    let f = rw c.if-not-fit.false at c.fit.ensures in
    bad_tells s.k s.count s.allowed.now s.refs.now s.sizes.now s.kept s.nodes.now s.work.now f
    (cleared_after s.k s.count s.allowed.now s.refs.now s.sizes.now s.kept s.nodes.now s.work.now f done.ensures.check_leaves.rest done.auto.work (filled 0 _ _ _ (omega arith) (omega (arith, f.room, done.auto.work)) (c.fill.ensures.after (λ y h. h))))
    (sym done.ensures.value ∙ c.if-good.false)
