-- `end` meets its contract. Assumes nothing.
use native.Mathlib.Omega.{arith}
use mathlib.Core.Path.{◌≡◌, refl}
use lib.ListN.{length}
use Rattle.std.proofs.Common.{rules, length-take}
use Rattle.card_writer.proofs.SheetLaws.{check_small, holding_end}
use Rattle.card_writer.proofs.Sheet.end.Goals as goal

pub slice_bounds-check_of-end : goal.slice_bounds-check_of-end
slice_bounds-check_of-end c =
    let h : length c.args.self.bytes ≡ 512 = search rules in
    omega (arith, length-take 510 c.args.self.bytes, h)

pub overflow_cast-block : goal.overflow_cast-block
overflow_cast-block c = omega (arith, (check_small _ _ _ c.check_of-sums.ensures).0)

pub overflow_cast-block-2 : goal.overflow_cast-block-2
overflow_cast-block-2 c = omega (arith, (check_small _ _ _ c.check_of-sums.ensures).1)

pub returns : goal.returns
returns c = λ n rs h. holding_end c.args.self _ n _ _ rs h c.check_of-sums.ensures refl
