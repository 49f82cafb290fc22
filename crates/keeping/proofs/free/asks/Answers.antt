-- `free::asks` meets its contract: the law of a node's set. Assumes nothing.
use Rattle.keeping.proofs.FreeLaws.{asks_is}
use Rattle.keeping.proofs.free.asks.Goals as goal

pub returns : goal.returns
returns c = rw c.own.ensures (asks_is c.args.nodes.table c.requires.j_lt_count.0 c.requires.marks)
