-- `rows::one_row` meets its contract: an atom takes its turns, and any other row works its instruction. Assumes nothing.
use mathlib.Core.Path.{sym, ◌∙◌}
use Rattle.rule.specs.Decoded.{row_of}
use Rattle.making.specs.Loans.{made}
use Rattle.diagram.proofs.RowLaws.{quiet, row_facts}
use Rattle.stepping.proofs.AtomLaws.{asked_atom, asked_other}
use Rattle.stepping.proofs.rows.one_row.Goals as goal

pub returns-then-is_atom-clause-done : goal.returns-then-is_atom-clause-done
returns-then-is_atom-clause-done c =
    let s = c.args in
    let done = c.atom in
    let e = asked_atom (row_of s.read) s.moment.event.now s.moment.given.now (sym c.is_atom.ensures ∙ c.if-is_atom.true) in
    rw (e, c.unvisited.ensures, quiet done.new.lent.count done.result)
    (row_facts s.k s.olds.now s.news.now s.i c.requires.k_bound.1 done.new.lent.nodes.now done.new.lent.work.now _ (made done.new.lent.count done.result) done.ensures.worked)

pub returns-clause-done : goal.returns-clause-done
returns-clause-done c =
    let s = c.args in
    let e = asked_other (row_of s.read) s.moment.event.now s.moment.given.now (sym c.is_atom.ensures ∙ c.if-is_atom.false) in
    rw (e, ← c.instruction-x.ensures) c.row.ensures.done
