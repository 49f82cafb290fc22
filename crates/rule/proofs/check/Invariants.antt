-- `rule::check` meets its contract. The loop keeps that no row before i is a fault and that their masks are right. Assumes nothing.
use Rattle.rule.proofs.CheckingLaws.{Walked}
use Rattle.rule.proofs.check.Given as goal

abbrev pub invariant-loop-i : goal.invariant-loop-i
invariant-loop-i l = Walked l.rows l.free l.i
