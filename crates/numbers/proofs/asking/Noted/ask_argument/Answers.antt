-- `Noted::ask_argument` meets its contract. Assumes nothing.
use lib.ListN.{get_or}
use Rattle.meaning.specs.Outcome.{fact_of}
use Rattle.numbers.specs.Asking.{part_of}
use Rattle.numbers.proofs.WalkLaws.{one_constant, one_variable}
use Rattle.numbers.proofs.asking.Noted.ask_argument.Goals as goal

pub returns-then-rows-i-eq0 : goal.returns-then-rows-i-eq0
returns-then-rows-i-eq0 c = one_variable c.args.parts.now.counts (part_of c.args.parts.now.m c.args.parts.now.counts c.args.parts.now.values.now) (fact_of c.args.fact).values c.args.rows.now c.args.i c.args.j (get_or (fact_of c.args.fact).values c.args.j 0) _ _ c.if-rows-i-eq0.true c.note.ensures

pub returns-else-rows-i-eq0 : goal.returns-else-rows-i-eq0
returns-else-rows-i-eq0 c = one_constant c.args.parts.now.counts (part_of c.args.parts.now.m c.args.parts.now.counts c.args.parts.now.values.now) (fact_of c.args.fact).values c.args.rows.now c.args.i c.args.j (get_or (fact_of c.args.fact).values c.args.j 0) _ c.requires.0 c.if-rows-i-eq0.false
