-- `instruction` meets its contract: each kind of row by its own arm. Assumes nothing.
use mathlib.Core.Path.{refl}
use mathlib.Core.Logic.{⊎_elim}
use Rattle.rule.specs.Decoded.{row_of}
use Rattle.instructions.specs.Read.{instruction_read}
use Rattle.instructions.proofs.instruction.Goals as goal

pub returns-in-True : goal.returns-in-True
unfolding row_of instruction_read
returns-in-True c = ⊎_elim (λ e. rw e refl) (λ e. rw e.1 refl) c.in-True.is

pub returns-in-And : goal.returns-in-And
unfolding row_of instruction_read
returns-in-And c = rw c.in-And.is refl

pub returns-in-Not : goal.returns-in-Not
unfolding row_of instruction_read
returns-in-Not c = rw c.in-Not.is refl

pub returns-in-Since : goal.returns-in-Since
unfolding row_of instruction_read
returns-in-Since c = rw c.in-Since.is refl

pub returns-in-Previous : goal.returns-in-Previous
unfolding row_of instruction_read
returns-in-Previous c = rw c.in-Previous.is refl

pub returns-in-Exists : goal.returns-in-Exists
unfolding row_of instruction_read
returns-in-Exists c = rw c.in-Exists.is refl
