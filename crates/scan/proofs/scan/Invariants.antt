-- `scan::scan` meets its contract. The loop's invariant: the bytes passed have led to a state that can go on. Assumes nothing.
use Rattle.spelling.specs.Modes.{mode_code}
use Rattle.scan.specs.Pending.{pending_code, from_code}
use Rattle.scan.proofs.ScanLaws.{Scanning}
use Rattle.scan.proofs.scan.Given as goal

abbrev pub invariant-loop-i : goal.invariant-loop-i
invariant-loop-i l = Scanning l.text l.i (pending_code l.l.pending) (from_code l.l.pending) (mode_code l.l.shape.mode) l.l.shape.depth
