-- `number_at` meets its contract. Assumes nothing.
use native.Mathlib.Omega.{arith}
use Rattle.cards.proofs.BytesLaws.{number_four}
use Rattle.card_block.proofs.sums.number_at.Goals as goal

pub returns : goal.returns
returns c = omega (arith, number_four c.args.s.now c.args.at c.requires, c.from_le_bytes.ensures)
