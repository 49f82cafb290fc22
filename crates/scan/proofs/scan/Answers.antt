use native.Mathlib.Omega.{arith}
use Rattle.scan.proofs.ScanLaws.{scan_begins, scan_stops, scan_more, scan_whole, scan_short}
use Rattle.scan.proofs.scan.Goals as goal

pub loop-i-init : goal.loop-i-init
loop-i-init c = scan_begins _

pub returns-in_default : goal.returns-in_default
returns-in_default c = scan_stops _ _ _ _ _ _ c.loop-i.invariant (omega arith) c.in_default.ensures

pub loop-i-preserved : goal.loop-i-preserved
loop-i-preserved c = scan_more _ _ _ _ _ _ c.loop-i.invariant (omega arith) _ _ _ _ c.in-Some.ensures

pub returns-then-ends : goal.returns-then-ends
returns-then-ends c = scan_whole _ _ _ _ _ _ c.loop-i.invariant c.loop-i-test.false _ c.ends.ensures c.if-ends.true

pub returns : goal.returns
returns c = scan_short _ _ _ _ _ _ c.loop-i.invariant c.loop-i-test.false _ c.ends.ensures c.if-ends.false
