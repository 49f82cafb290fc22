-- `atom` meets its contract. Assumes nothing.
use Rattle.spelling.specs.declared.kinds.Kind.TheVariants.{Open}
use Rattle.spelling.proofs.Each.{kind_met, kind_missed}
use Rattle.census.specs.Tables.{names_at}
use Rattle.atomic.proofs.CollectLaws.{atom_ends, atom_alone, atom_some}
use Rattle.atomic.proofs.atom.Goals as goal

pub returns-in-Some : goal.returns-in-Some
returns-in-Some c = atom_some (names_at c.args.names.text.now c.args.names.spans.now) _ c.args.predicate _ _ c.in-Some.ensures _ (kind_met c.in-Some.w.word Open _ c.eq.ensures c.if-eq.true) c.collect.ensures

pub returns-in_default : goal.returns-in_default
returns-in_default c = atom_alone (names_at c.args.names.text.now c.args.names.spans.now) _ c.args.predicate _ _ c.in-Some.ensures (kind_missed c.in-Some.w.word Open _ c.eq.ensures c.if-eq.false)

pub returns-in_default-2 : goal.returns-in_default-2
returns-in_default-2 c = atom_ends (names_at c.args.names.text.now c.args.names.spans.now) _ c.args.predicate _ (rw c.in_default.is at c.next_word.ensures)
