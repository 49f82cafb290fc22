-- `slot` meets its contract. Assumes nothing.
use Rattle.lists.specs.Slots.{slot_of, mixed}
use Prim.Native.Nat.{◌*◌, ◌%◌}
use mathlib.Core.Path.{refl}
use native.Mathlib.Omega.{arith}
use native.Mathlib.Nat.{mod-lt}
use Rattle.lists.proofs.SlotsLaws.{turned, scaled, slot_low}
use Rattle.lists.proofs.checking.slot.Goals as goal

pub overflow_mul-mixed : goal.overflow_mul-mixed
overflow_mul-mixed c = record { fits = omega (arith, turned (c.args.y * 2654435769 % 4294967296) (mod-lt _ (omega arith))) }

pub overflow_mul-result : goal.overflow_mul-result
overflow_mul-result c = record { fits = scaled _ _ (mod-lt _ (omega arith)) c.requires.1 }

pub returns : goal.returns
unfolding slot_of mixed
returns c = (refl, slot_low c.args.size c.args.y c.requires.0)
