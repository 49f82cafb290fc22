-- `weigh_kept` meets its contract. Assumes nothing.
use native.Mathlib.Omega.{arith}
use Rattle.card_mender.proofs.FlagLaws.{first_few, length_from}
use Rattle.card_mender.proofs.WeighLaws.{kept_on, kept_anew}
use lib.ListN.{drop}
use Rattle.card_block.specs.Shapes.{records_from}
use Rattle.card_mender.proofs.weigh_kept.Goals as goal

pub past_last-requires : goal.past_last-requires
past_last-requires c = (omega arith, omega (arith, c.requires.whole, c.requires.few, c.records-records.ensures))

pub returns-then-on : goal.returns-then-on
returns-then-on c = kept_on _ _ _ _ _ c.if-on.true c.records-records.ensures c.past_last.ensures

pub past_first-from-requires : goal.past_first-from-requires
past_first-from-requires c = omega (arith, c.requires.whole, c.requires.few, c.records-records.ensures)

pub past_last-requires-2 : goal.past_last-requires-2
past_last-requires-2 c = (omega arith, omega (arith, c.requires.whole, c.requires.few, c.records-records.ensures))

pub past_last-requires-3 : goal.past_last-requires-3
past_last-requires-3 c = (
  omega (arith, c.past_first-from.ensures, first_few (records_from c.records-records.result (drop 6 c.args.piece.now)), length_from c.records-records.result (drop 6 c.args.piece.now)),
  omega (arith, c.requires.whole, c.requires.few, c.records-records.ensures),
)

pub returns : goal.returns
returns c = kept_anew _ _ _ _ _ _ _ c.if-on.false c.records-records.ensures c.past_first-from.ensures c.past_last-3.ensures c.past_last-2.ensures
