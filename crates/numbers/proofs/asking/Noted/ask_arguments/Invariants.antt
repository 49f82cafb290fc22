-- `Noted::ask_arguments` meets its contract. The loop keeps that the first j arguments have asked. Assumes nothing.
use lib.ListN.{take}
use Rattle.meaning.specs.Numbering.{ask_arguments}
use Rattle.meaning.specs.Outcome.{fact_of}
use Rattle.numbers.specs.Matching.{arguments_of}
use Rattle.numbers.specs.Asking.{sheet, Carried, AtPlaces, part_of}
use Rattle.numbers.proofs.asking.Noted.ask_arguments.Given as goal

abbrev pub invariant-loop-j : goal.invariant-loop-j
invariant-loop-j l =
    Carried l.parts.counts (part_of l.parts.m l.parts.counts l.parts.values.now) (fact_of l.fact).values
    (λ M. ask_arguments M (take l.j (arguments_of l.rows l.i l.fact.count)) (take l.j (fact_of l.fact).values)) (AtPlaces l.rows l.i l.j)
    (sheet l.initial.self.counts l.initial.self.fresh l.initial.self.numbers) (sheet l.self.counts l.self.fresh l.self.numbers)
