-- `read` meets its contract. Assumes nothing.
use Rattle.nodes.proofs.ReadLaws.{splits}
use Rattle.nodes.proofs.table.Nodes.read.Goals as goal

pub returns : goal.returns
returns c = splits c.args.self.slice.now c.args.self.count c.args.r c.args.self.table.back c.requires.0 c.requires.1
