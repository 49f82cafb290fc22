-- `work_rows` meets its contract. The loop's invariant: the first i rows are worked and counted. Assumes nothing.
use Rattle.trees.specs.Kept.{diagrams}
use Rattle.meaning.specs.Rows.{count_of_rows}
use Rattle.instructions.specs.Planned.{planned}
use Rattle.making.specs.Loans.{SameLoans}
use Rattle.diagram.specs.Works.{Through}
use Rattle.stepping.proofs.rows.work_rows.Given as goal

abbrev pub invariant-loop-i : goal.invariant-loop-i
invariant-loop-i l =
    SameLoans l.initial.lent l.lent
    × Through l.k (planned l.moment.rows.now l.moment.event.now l.moment.given.now) (diagrams l.initial.lent.nodes.now l.initial.lent.count l.olds (count_of_rows l.moment.rows.now)) l.initial.lent.nodes.now l.initial.lent.count l.lent.nodes.now l.lent.count l.lent.work.now l.layout.c l.layout.slots l.olds l.news l.i l.visits
