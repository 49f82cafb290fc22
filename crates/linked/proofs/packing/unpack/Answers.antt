-- `packing::unpack` meets its contract. Assumes nothing.
use mathlib.Core.Path.{refl}
use Rattle.linked.specs.Packing.{figures_of, references_of, sizes_in, unpacked_state}
use Rattle.linked.proofs.packing.unpack.Goals as goal

pub returns : goal.returns
unfolding figures_of references_of sizes_in unpacked_state
returns c = rw (c.part-counts.ensures, c.part-refs.ensures, c.part-sizes.ensures) refl
