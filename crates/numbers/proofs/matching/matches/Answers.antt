-- `matches` meets its contract: one law for each way out. Assumes nothing.
use mathlib.Core.Path.{sym, ◌∙◌}
use native.Mathlib.Omega.{arith}
use Rattle.numbers.proofs.FitLaws.{other_row, match_predicate, match_count, match_fits}
use Rattle.numbers.proofs.matching.matches.Goals as goal
use Rattle.numbers.proofs.matching.matches.Goals.{then-fact-atom-via-then-fact-atom, then-fact-atom-via-else-fact-atom+then-min}

pub returns-in_default : goal.returns-in_default
returns-in_default c = other_row c.args.fact c.args.row c.in_default.not-Atom

pub returns-then-fact-atom : goal.returns-then-fact-atom
returns-then-fact-atom c =
    elim c.then-fact-atom.branch [
      | then-fact-atom-via-then-fact-atom w ↦ match_predicate c.args.fact c.args.row c.in-Atom.atom c.in-Atom.is w.if-fact-atom.true
      | then-fact-atom-via-else-fact-atom+then-min w ↦ match_count c.args.fact c.args.row c.in-Atom.atom c.in-Atom.is (omega arith) (omega arith)
          (λ z. w.if-min.true (w.min.ensures ∙ z ∙ sym w.min-else-fact-atom.ensures))
    ]

pub returns : goal.returns
returns c =
    rw c.min-n.ensures at c.all_fit.ensures
    ∙ match_fits c.args.fact c.args.row c.in-Atom.atom c.in-Atom.is (omega arith) (omega arith) c.if-fact-atom.false (sym c.min.ensures ∙ c.if-min.false ∙ c.min-else-fact-atom.ensures)
