-- `add` meets its contract. Assumes nothing.
use mathlib.Core.Path.{refl}
use Rattle.card_writer.proofs.SheetLaws.{holding_more}
use Rattle.card_writer.proofs.Sheet.add.Goals as goal

pub returns-clause-held : goal.returns-clause-held
returns-clause-held c = λ n rs h. holding_more c.args.self.now _ n rs _ h c.requires (rw c.put_fact.ensures refl)
