-- The line that is held is judged, and put out. Assumes nothing.
use Rattle.std.proofs.Common.{sym, subst, take}
use Rattle.session.specs.declared.After.{After}
use Rattle.session.proofs.KeepLaws.{Leaves, reads_small, line_leaves}
use Rattle.kiosk.specs.Desks.{shown}
use Rattle.kiosk.proofs.ServeLaws.{serve_one}
use Rattle.kiosk.proofs.blocks.Desk.serve.Goals as goal

pub invariant_of-self : goal.invariant_of-self
invariant_of-self c =
    let was = c.args.self.now in
    let small = reads_small (take was.held.count was.held.line) c.read-found.result c.read-found.ensures in
    let leaves = subst (λ (r : After). Leaves was.session r) (sym c.line-after.ensures.after_is) (line_leaves was.session c.read-found.result was.tables.rows was.tables.nodes was.tables.values was.tables.work was.sound small) in
    record { sound = leaves.sound }

pub returns-clause-counted : goal.returns-clause-counted
returns-clause-counted c =
    let was = c.args.self.now in
    let small = reads_small (take was.held.count was.held.line) c.read-found.result c.read-found.ensures in
    let leaves = subst (λ (r : After). Leaves was.session r) (sym c.line-after.ensures.after_is) (line_leaves was.session c.read-found.result was.tables.rows was.tables.nodes was.tables.values was.tables.work was.sound small) in
    leaves.counted

pub returns-clause-served : goal.returns-clause-served
returns-clause-served c = serve_one (shown c.args.self.now) c.read-found.result c.read-found.ensures c.line-after.ensures c.clear.ensures c.put_told.ensures.put
