-- `calls::count_arguments` meets its contract. Assumes nothing.
use Rattle.spelling.specs.declared.kinds.Kind.TheVariants.{Open}
use Rattle.spelling.proofs.Each.{kind_met, kind_missed}
use Rattle.census.proofs.CommaLaws.{arguments_ends, arguments_no, arguments_yes}
use Rattle.census.proofs.calls.count_arguments.Goals as goal

pub returns-in-Some : goal.returns-in-Some
returns-in-Some c = arguments_yes _ _ _ c.in-Some.ensures _ (kind_met c.in-Some.w.word Open _ c.eq.ensures c.if-eq.true) c.commas.ensures

pub returns-in_default : goal.returns-in_default
returns-in_default c = arguments_no _ _ _ c.in-Some.ensures (kind_missed c.in-Some.w.word Open _ c.eq.ensures c.if-eq.false)

pub returns-in_default-2 : goal.returns-in_default-2
returns-in_default-2 c = arguments_ends _ _ (rw c.in_default.is at c.next_word.ensures)
