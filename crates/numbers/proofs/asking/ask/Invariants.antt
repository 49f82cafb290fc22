-- `ask` meets its contract. The loop keeps that the facts before f have asked. Assumes nothing.
use Rattle.numbers.specs.Asking.{part_of}
use Rattle.numbers.proofs.FactsLaws.{Going}
use Rattle.numbers.proofs.asking.ask.Given as goal

abbrev pub invariant-loop-f : goal.invariant-loop-f
invariant-loop-f l = Going l.parts.counts (part_of l.parts.m l.parts.counts l.parts.values.now) l.rows l.event l.f l.a.counts l.a.fresh l.given
