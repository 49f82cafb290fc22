-- A line that is held is served. Assumes nothing.
use Rattle.std.proofs.Common.{arith}
use Rattle.kiosk.specs.Desks.{shown}
use Rattle.kiosk.proofs.ServeLaws.{serve_none, serve_some}
use Rattle.kiosk.proofs.blocks.Desk.last.Goals as goal

pub returns-then-self-eq0-clause-served : goal.returns-then-self-eq0-clause-served
returns-then-self-eq0-clause-served c = serve_none (shown c.args.self.now) c.if-self-eq0.true

pub returns-clause-served : goal.returns-clause-served
returns-clause-served c = serve_some (shown c.args.self.now) (omega arith) c.serve.ensures.served
