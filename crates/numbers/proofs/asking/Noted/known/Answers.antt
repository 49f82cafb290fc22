-- `Noted::known` meets its contract: the variable's list is looked in, and then the fresh values. Assumes nothing.
use Rattle.std.proofs.Common.{◌∙◌}
use native.Mathlib.Omega.{arith}
use Rattle.numbers.proofs.PartLaws.{piece, known_old, known_none, known_new, new_low}
use Rattle.numbers.proofs.LookLaws.{told_is}
use Rattle.numbers.proofs.asking.Noted.known.Goals as goal

pub look-requires : goal.look-requires
look-requires c = (c.requires.1.small, c.requires.1.whole, c.requires.2, c.requires.1.counts_fit c.args.v c.requires.2)

pub returns-in-Some : goal.returns-in-Some
returns-in-Some c = known_old c.args.parts.now.m c.args.parts.now.counts c.args.parts.now.values.now c.args.self.now.counts c.args.self.now.fresh c.args.v c.args.y.0 c.requires.1 c.requires.2 c.in-Some.n (told_is _ _ _ c.look.ensures c.number.ensures ∙ c.in-Some.is)

pub overflow_sub-to : goal.overflow_sub-to
overflow_sub-to c = c.requires.3

pub overflow_add-to : goal.overflow_add-to
overflow_add-to c = omega (arith, c.requires.2, c.requires.4)

pub returns-in_err-n : goal.returns-in_err-n
returns-in_err-n c =
    let old = told_is _ _ _ c.look.ensures c.number.ensures ∙ c.in_default.is in
    let p = piece c.args.parts.now.m c.args.parts.now.counts c.args.parts.now.values.now c.args.self.now.counts c.args.self.now.fresh c.args.v c.args.y.0 c.requires.1 c.requires.2 old c.requires.4 in
    let new = rw c.plain.ensures at (told_is _ _ _ c.look_in.ensures c.number-2.ensures) in
    c.from_residual.ensures ∙ known_none c.args.parts.now.m c.args.parts.now.counts c.args.parts.now.values.now c.args.self.now.counts c.args.self.now.fresh c.args.v c.args.y.0 c.requires.1 c.requires.2 old c.requires.4 (new ∙ c.in_err-n.was)

pub overflow_add-result : goal.overflow_add-result
overflow_add-result c =
    let old = told_is _ _ _ c.look.ensures c.number.ensures ∙ c.in_default.is in
    let new = rw c.plain.ensures at (told_is _ _ _ c.look_in.ensures c.number-2.ensures) in
    let few = new_low c.args.parts.now.m c.args.parts.now.counts c.args.parts.now.values.now c.args.self.now.counts c.args.self.now.fresh c.args.v c.args.y.0 c.requires.1 c.requires.2 old c.requires.4 c.in_ok-n.n.0 (new ∙ c.in_ok-n.was) in
    omega (arith, few, c.requires.1.counts_fit c.args.v c.requires.2, c.requires.1.small)

pub returns : goal.returns
returns c =
    let old = told_is _ _ _ c.look.ensures c.number.ensures ∙ c.in_default.is in
    let new = rw c.plain.ensures at (told_is _ _ _ c.look_in.ensures c.number-2.ensures) in
    known_new c.args.parts.now.m c.args.parts.now.counts c.args.parts.now.values.now c.args.self.now.counts c.args.self.now.fresh c.args.v c.args.y.0 c.requires.1 c.requires.2 old c.requires.4 c.in_ok-n.n.0 (new ∙ c.in_ok-n.was)
