-- `Noted::ask_fact` meets its contract. The loop keeps that the rows before i have asked. Assumes nothing.
use Rattle.numbers.specs.Asking.{sheet, part_of}
use Rattle.numbers.proofs.WalkLaws.{Rows}
use Rattle.numbers.proofs.asking.Noted.ask_fact.Given as goal

abbrev pub invariant-loop-i : goal.invariant-loop-i
invariant-loop-i l =
    Rows l.parts.counts (part_of l.parts.m l.parts.counts l.parts.values.now) l.rows l.fact l.i
    (sheet l.initial.self.counts l.initial.self.fresh l.initial.self.numbers) (sheet l.self.counts l.self.fresh l.self.numbers)
