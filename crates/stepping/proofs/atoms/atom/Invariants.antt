-- `atoms::atom` meets its contract. The loop's invariant: the first f turns are taken. Assumes nothing.
use Rattle.rule.specs.Decoded.{row_of}
use Rattle.instructions.specs.Planned.{turns_to}
use Rattle.making.specs.Loans.{SameLoans}
use Rattle.diagram.proofs.TurnLaws.{Turning}
use Rattle.stepping.proofs.AtomLaws.{places}
use Rattle.stepping.proofs.atoms.atom.Given as goal

abbrev pub invariant-loop-f : goal.invariant-loop-f
invariant-loop-f l =
    SameLoans l.initial.lent l.lent
    × Turning l.k (turns_to (row_of l.read) l.moment.event.now l.moment.given.now l.moment.event.now.count) (places (row_of l.read) l.moment.given.now) l.initial.lent.nodes.now l.initial.lent.count l.lent.nodes.now l.lent.count l.reference l.f l.initial.lent.work.now l.lent.work.now l.layout.c l.layout.slots
