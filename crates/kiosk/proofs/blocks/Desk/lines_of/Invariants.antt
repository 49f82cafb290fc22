-- Line after line, what is still to be done is what the block asks for; a line puts out at most 75 bytes and counts one event at most. The
-- measure is what is left of the block.
use Rattle.std.proofs.Common.{◌+◌, ◌*◌, ◌≤◌, length}
use Rattle.kiosk.specs.Desks.{shown}
use Rattle.kiosk.proofs.BlockLaws.{Feeding}
use Rattle.kiosk.proofs.blocks.Desk.lines_of.Given as goal

abbrev pub invariant-loop-past : goal.invariant-loop-past
invariant-loop-past l = record {
  counted : l.self.session.ordinal + length l.rest ≤ l.initial.self.session.ordinal + length l.block;
  near : l.at + 75 * length l.rest ≤ 75 * length l.block;
  feeding : Feeding l.block (shown l.initial.self) l.initial.out (shown l.self) l.out l.at l.rest;
}

abbrev pub decreases-loop-past : goal.decreases-loop-past
decreases-loop-past l = length l.rest
