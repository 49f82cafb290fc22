-- The desk is reached at the start and after each block. Assumes nothing.
use Rattle.std.proofs.Common.{arith}
use lib.Seq.{length-take-le}
use Rattle.kiosk.proofs.ReachLaws.{reached_first, first_count, reached_more}
use Rattle.kiosk.proofs.main.Goals as goal

pub loop-left-init : goal.loop-left-init
loop-left-init c = record { counted = omega (arith, first_count c.new-desk.ensures); reached = reached_first c.new-desk.ensures }

pub loop-left-preserved : goal.loop-left-preserved
loop-left-preserved c =
    let call = c.lines_of-at.ensures in
    record {
      counted = omega (arith, call.counted, c.loop-left.invariant.counted, c.in-Some.ensures, length-take-le c.in-Some.n c.fill.new.block (omega (arith, c.in-Some.ensures)));
      reached = reached_more c.loop-left.invariant.reached call.fills;
    }
