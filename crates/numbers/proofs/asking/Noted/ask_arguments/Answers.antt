use native.Mathlib.Omega.{arith}
use Rattle.meaning.specs.Outcome.{fact_of}
use Rattle.numbers.specs.Matching.{arguments_of}
use Rattle.numbers.specs.Asking.{part_of}
use Rattle.numbers.proofs.WalkLaws.{arguments_none, arguments_more, arguments_all}
use Rattle.numbers.proofs.asking.Noted.ask_arguments.Goals as goal

pub loop-j-init : goal.loop-j-init
loop-j-init c = arguments_none c.args.parts.now.counts (part_of c.args.parts.now.m c.args.parts.now.counts c.args.parts.now.values.now) (fact_of c.args.fact).values c.args.rows.now c.args.i (arguments_of c.args.rows.now c.args.i c.args.fact.count) _ c.requires.0

pub ask_argument-requires : goal.ask_argument-requires
ask_argument-requires c = (c.loop-j.invariant.steady, c.requires.1, c.requires.2, c.loop-j-test.true)

pub loop-j-preserved : goal.loop-j-preserved
loop-j-preserved c =
    arguments_more c.args.parts.now.counts (part_of c.args.parts.now.m c.args.parts.now.counts c.args.parts.now.values.now) c.args.rows.now c.args.i c.args.fact c.requires.2.readable c.loop-j.j _ _ _ c.loop-j-test.true c.loop-j.invariant c.ask_argument.ensures

pub returns : goal.returns
returns c = arguments_all c.args.parts.now.counts (part_of c.args.parts.now.m c.args.parts.now.counts c.args.parts.now.values.now) c.args.rows.now c.args.i c.args.fact c.requires.2.readable c.loop-j.j _ _ (omega arith) c.loop-j.invariant
