-- `lists_right` meets its contract. Assumes nothing.
use native.Mathlib.Omega.{arith}
use mathlib.Core.Path.{◌∙◌}
use Rattle.numbers.proofs.StartLaws.{most_le}
use Rattle.lists.proofs.ListsLaws.{lists_same}
use Rattle.lists.proofs.checking.lists_right.Goals as goal

pub all_right-requires : goal.all_right-requires
all_right-requires c =
    let s = c in
    let m = c.most-m.ensures in
    (s.requires.2, omega (arith, m, most_le s.args.k s.requires.0), rw m s.requires.1)

pub returns : goal.returns
returns c =
    let a = c.args in
    let d = c.all_right.ensures in
    let m = c.most-m in
    record { answer = d.answer ∙ lists_same a.k m.result a.counts a.values.now m.ensures; beyond = d.beyond }
