-- `session::happen` meets its contract: answer, state and tables are those of the event's outcome. Assumes nothing.
use mathlib.Core.Path.{refl}
use Rattle.session.proofs.TurnLaws.{happen_left_law}
use Rattle.session.proofs.happen.Goals as goal

pub returns : goal.returns
returns c =
    let lend = c.lend-lent in
    let event = c.event-turn in
    happen_left_law c.args.s lend.result lend.ensures c.args.header c.args.event c.args.rows.now c.args.nodes.now c.args.values.now c.args.work.now event.result event.new.nodes event.new.values event.new.work event.ensures refl refl refl
