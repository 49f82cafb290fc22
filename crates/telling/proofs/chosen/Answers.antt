-- `chosen` meets its contract. Assumes nothing.
use Rattle.telling.proofs.WayLaws.{bit_low, bit_high}
use Rattle.telling.proofs.chosen.Goals as goal

pub returns-then-n-j-eq0 : goal.returns-then-n-j-eq0
returns-then-n-j-eq0 c = let a = c.args in bit_low a.n a.j a.low a.high c.if-n-j-eq0.true

pub returns-else-n-j-eq0 : goal.returns-else-n-j-eq0
returns-else-n-j-eq0 c = let a = c.args in bit_high a.n a.j a.low a.high c.if-n-j-eq0.false
