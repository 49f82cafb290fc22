-- Line after line: a line puts out at most 75 bytes and counts one event at most; at the end of the block it is done. Assumes nothing.
use Rattle.std.proofs.Common.{◌<◌, length, arith, sym, ◌∙◌, rules, tests}
use borrow.Author.Tests.{eqb-true}
use Rattle.kiosk.proofs.BlockLaws.{passed_some, left_long, feeding_more, feeding_some, feeding_none}
use Rattle.kiosk.proofs.blocks.Desk.lines_of.Goals as goal

pub returns-then-is_empty-clause-fills : goal.returns-then-is_empty-clause-fills
returns-then-is_empty-clause-fills c = feeding_none (eqb-true (length c.args.block.now) 0 (sym c.is_empty.ensures ∙ c.if-is_empty.true)) c.rest.ensures.ended

pub loop-past-preserved : goal.loop-past-preserved
loop-past-preserved c =
    let passed = passed_some c.in-Some.ensures in
    let served = c.serve-at.ensures in
    let long = left_long c.loop-past.rest.now c.in-Some.past in
    record {
      counted = omega (arith, served.counted, c.loop-past.invariant.counted, passed.inside, passed.past_is, long);
      near = omega (arith, served.near, c.loop-past.invariant.near, passed.inside, passed.past_is, long);
      feeding = feeding_more c.loop-past.invariant.feeding c.in-Some.ensures served.served;
    }

pub returns-clause-fills : goal.returns-clause-fills
returns-clause-fills c =
    let some : 0 < length c.args.block.now = search (rules, tests) in
    feeding_some some c.loop-past.invariant.feeding c.in_default.ensures
