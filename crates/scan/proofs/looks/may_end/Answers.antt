-- `looks::may_end` meets its contract. Assumes nothing.
use borrow.Author.Tests.{ne_eqb}
use Rattle.scan.proofs.MayLaws.{end_no, end_yes}
use Rattle.scan.proofs.looks.may_end.Goals as goal

pub returns-then-shape-eq0 : goal.returns-then-shape-eq0
returns-then-shape-eq0 c = end_yes _ _ _ c.if-shape-eq0.true c.joins.ensures

pub returns-else-shape-eq0 : goal.returns-else-shape-eq0
returns-else-shape-eq0 c = rw (ne_eqb c.args.shape.depth 0 c.if-shape-eq0.false) (end_no _ _ c.if-shape-eq0.false)
