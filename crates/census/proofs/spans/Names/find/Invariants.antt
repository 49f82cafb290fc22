-- `find` meets its contract. The loop's invariant: the names passed are others. Assumes nothing.
use Rattle.census.proofs.TableLaws.{Finding}
use Rattle.census.proofs.spans.Names.find.Given as goal

abbrev pub invariant-loop-i : goal.invariant-loop-i
invariant-loop-i l = Finding l.self.text.now l.self.spans.now l.name l.i
