-- `copy_back` meets its contract. The loop keeps that the first i numbers are copied. Assumes nothing.
use Rattle.sweeping.proofs.CopyLaws.{CopiedTo}
use Rattle.sweeping.proofs.copy_back.Given as goal

abbrev pub invariant-loop-i : goal.invariant-loop-i
invariant-loop-i l = CopiedTo l.work l.initial.nodes l.nodes l.i
