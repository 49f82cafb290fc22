-- `list_right` meets its contract. Assumes nothing.
use mathlib.Core.Path.{refl, sym, ◌∙◌}
use native.Mathlib.Omega.{arith}
use Rattle.lists.proofs.ListsLaws.{part_over, part_rest, part_differ}
use Rattle.lists.proofs.checking.list_right.Goals as goal
use Rattle.lists.proofs.checking.list_right.Goals.{then-m-count-via-then-m-count, then-m-count-via-else-m-count+then-not-all_zero}

pub returns-then-m-count : goal.returns-then-m-count
returns-then-m-count c = record {
  answer = elim c.then-m-count.branch [
    | then-m-count-via-then-m-count w ↦ part_over c.args.m c.args.count c.args.part.now w.if-m-count.true
    | then-m-count-via-else-m-count+then-not-all_zero w ↦
        part_rest c.args.m c.args.count c.args.part.now w.if-m-count.false c.requires.2 (sym w.all_zero.ensures ∙ w.if-not-all_zero.true)
  ];
  beyond = refl;
}

pub returns : goal.returns
returns c = record {
  answer = c.all_differ.ensures.answer ∙ part_differ c.args.m c.args.count c.args.part.now (omega arith) c.requires.2 (sym c.all_zero.ensures ∙ c.if-not-all_zero.false);
  beyond = c.all_differ.ensures.beyond;
}
