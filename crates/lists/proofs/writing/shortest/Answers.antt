use native.Mathlib.Omega.{arith}
use mathlib.Core.Path.{sym}
use lib.Dec.{ltb}
use lib.ListN.{get_or}
use borrow.Author.Count.{below_more}
use borrow.Author.Tests.{lt-ltb, le-ltb}
use Rattle.meaning.specs.Tables
use Rattle.numbers.proofs.StartLaws.{most_le}
use Rattle.lists.specs.Writing.{lowest}
use Rattle.lists.proofs.WritingLaws.{first_is}
use Rattle.lists.proofs.writing.shortest.Goals as goal

pub overflow_add-numbers : goal.overflow_add-numbers
overflow_add-numbers c = omega (arith, c.most-numbers.ensures, most_le c.args.k c.requires)

pub returns-then-numbers-counts : goal.returns-then-numbers-counts
unfolding lowest
returns-then-numbers-counts c = (
  sym (first_is 4 (λ v. ltb (Tables.most c.args.k) (get_or c.args.counts v 0)) c.loop-v.v (omega arith) c.loop-v.invariant
      (λ h. lt-ltb (Tables.most c.args.k) (get_or c.args.counts c.loop-v.v 0) (omega (arith, c.if-numbers-counts.true, c.most-numbers.ensures)))),
  c.loop-v-test.true,
)

pub loop-v-preserved : goal.loop-v-preserved
loop-v-preserved c =
    below_more _ _ c.loop-v.invariant (le-ltb (Tables.most c.args.k) (get_or c.args.counts c.loop-v.v 0) (omega (arith, c.if-numbers-counts.false, c.most-numbers.ensures)))

pub returns : goal.returns
unfolding lowest
returns c = (
  sym (first_is 4 (λ v. ltb (Tables.most c.args.k) (get_or c.args.counts v 0)) 4 (omega arith) (λ i h. c.loop-v.invariant i (omega arith)) (λ h. absurd (omega arith))),
  tt,
)
