-- `turn` meets its contract: an atom that matches has four places, and any other row nothing. Assumes nothing.
use Rattle.rule.specs.Decoded.{row_of}
use Rattle.instructions.specs.Read.{row_turn}
use Rattle.instructions.proofs.ReadLaws.{no_turn, row_is, hit_yes, hit_no}
use Rattle.instructions.proofs.turn.Goals as goal

pub returns-in_default : goal.returns-in_default
returns-in_default c = no_turn c.args.row c.args.matched _ _ c.in_default.not-Atom

pub returns-then-not-matched : goal.returns-then-not-matched
unfolding row_of row_turn
returns-then-not-matched c = row_is _ _ _ c.in-Atom.is (hit_no _ c.args.matched _ _ c.if-not-matched.true)

pub returns : goal.returns
unfolding row_of row_turn
returns c = row_is _ _ _ c.in-Atom.is (hit_yes _ c.args.matched _ _ c.if-not-matched.false c.place_of-x.ensures c.place_of-y.ensures c.place_of-z.ensures c.place_of-w.ensures)
