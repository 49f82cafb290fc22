-- `packing::pack` meets its contract. Assumes nothing.
use native.Mathlib.Omega.{arith}
use Rattle.linked.proofs.PackingLaws.{state_written}
use Rattle.linked.proofs.packing.pack.Goals as goal

pub returns : goal.returns
returns c =
    rw (c.copy_from_slice.ensures.after, c.copy_from_slice-2.ensures.after, c.copy_from_slice-3.ensures.after)
    (state_written c.args.state c.args.numbers.now c.requires (omega arith) (omega arith) (omega arith))
