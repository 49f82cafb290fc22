-- `feed::Held::hold` meets its contract: as many bytes are held as there is room for. Assumes nothing.
use Rattle.std.proofs.Common.{rules}
use Rattle.feed.specs.Feeds.{holding}
use Rattle.feed.proofs.HeldLaws.{hold_taken}
use Rattle.feed.proofs.Held.hold.Goals as goal

pub returns : goal.returns
returns c = hold_taken (holding c.args.self.now.count c.args.self.now.line) c.args.bytes.now c.min-taken.result (search rules) (search rules) (search rules)
