-- `session::begin` meets its contract, by the answer of the start. Assumes nothing.
use mathlib.Core.Path.{refl}
use Rattle.session.proofs.TurnLaws.{but_refused, begin_refused, begin_started}
use Rattle.session.proofs.begin.Goals as goal

pub returns-in-Refused : goal.returns-in-Refused
returns-in-Refused c =
    let lend = c.lend-lent in
    let start = c.start-turn in
    begin_refused c.args.s lend.result lend.ensures c.args.rows.now c.args.nodes.now c.args.values.now start.result start.new.nodes start.new.values start.ensures refl refl c.in-Refused.is

pub returns : goal.returns
returns c =
    let lend = c.lend-lent in
    let start = c.start-turn in
    begin_started c.args.s lend.result lend.ensures c.args.rows.now c.args.nodes.now c.args.values.now start.result start.new.nodes start.new.values start.ensures refl refl (but_refused _ c.in_default.not-Refused)
