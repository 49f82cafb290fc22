-- `session::line` meets its contract, by the kind of the line. Assumes nothing.
use Rattle.session.proofs.LineLaws.{line_sizes, line_row, line_event, line_none}
use Rattle.session.proofs.line.Goals as goal

pub returns-in-Sizes : goal.returns-in-Sizes
returns-in-Sizes c =
    let was = c.args.tables.now in
    line_sizes c.args.s c.args.found was.rows was.nodes was.values was.work c.in-Some.is c.in-Sizes.is c.sizes.ensures

pub returns-in-Row : goal.returns-in-Row
returns-in-Row c =
    let was = c.args.tables.now in
    line_row c.args.s c.args.found was.rows was.nodes was.values was.work c.in-Some.is c.in-Row.is c.row.ensures

pub returns-in_default : goal.returns-in_default
returns-in_default c =
    let was = c.args.tables.now in
    line_none c.args.s c.args.found was.rows was.nodes was.values was.work c.in_default.is c.bad.ensures

pub returns-in-Event : goal.returns-in-Event
returns-in-Event c =
    let was = c.args.tables.now in
    line_event c.args.s c.args.found was.rows was.nodes was.values was.work c.in-Some.is c.in-Event.is c.event_of.ensures c.event.ensures.judges c.event.ensures.kept
