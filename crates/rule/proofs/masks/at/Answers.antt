-- `rule::masks::at` meets its contract: four bits of the mask, and none past the rows. Assumes nothing.
use Prim.Native.Nat.{◌≤◌}
use mathlib.Core.Path.{sym}
use native.Mathlib.Omega.{arith}
use lib.ListN.{length, get_or-eq_default}
use Rattle.rule.specs.Masks.{mask_of, digit, has_bit}
use Rattle.rule.proofs.MasksLaws.{mask_has}
use Rattle.rule.proofs.masks.at.Goals as goal

pub returns-then-p-lt64 : goal.returns-then-p-lt64
returns-then-p-lt64 c = sym (mask_has _)

pub returns-else-p-lt64 : goal.returns-else-p-lt64
unfolding mask_of digit has_bit
returns-else-p-lt64 c =
    let h : length c.args.free.now ≤ c.args.p = omega arith in
    rw (get_or-eq_default c.args.free.now 0 h)
