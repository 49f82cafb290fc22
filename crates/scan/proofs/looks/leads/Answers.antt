-- `looks::leads` meets its contract. Assumes nothing.
use borrow.Author.Tests.{ne_eqb}
use Rattle.scan.proofs.MayLaws.{leads_grown, leads_other, leads_since}
use Rattle.scan.proofs.looks.leads.Goals as goal

pub returns-then-grows : goal.returns-then-grows
returns-then-grows c = rw c.if-grows.true (leads_grown _ _ _ c.grows.ensures c.if-grows.true)

pub returns-then-b-eq83 : goal.returns-then-b-eq83
returns-then-b-eq83 c = leads_since _ _ _ c.grows.ensures c.if-grows.false c.if-b-eq83.true _ c.joins.ensures

pub returns-else-b-eq83 : goal.returns-else-b-eq83
returns-else-b-eq83 c = rw (ne_eqb c.args.b 83 c.if-b-eq83.false) (leads_other _ _ _ c.grows.ensures c.if-grows.false c.if-b-eq83.false)
