-- `row::drops_row` meets its contract. The loop's invariant: what is left to remove gives what was asked. The measure is the
-- count of bits that are left. Assumes nothing.
use Prim.Native.Nat.{◌*◌, ◌≤◌}
use Rattle.making.specs.Loans.{SameLoans}
use Rattle.diagram.proofs.RemovalLaws.{Removing}
use Rattle.diagram.proofs.row.drops_row.Given as goal

abbrev pub invariant-loop-b : goal.invariant-loop-b
invariant-loop-b l =
    (l.b ≤ l.k) × SameLoans l.initial.lent l.lent × Removing (4 * l.k) l.base l.k l.initial.lent.nodes.now l.initial.lent.count l.p l.lent.nodes.now l.lent.count l.r l.b l.initial.lent.work.now l.lent.work.now l.layout.c l.layout.slots
