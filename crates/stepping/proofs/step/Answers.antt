-- `step` meets its contract: one law for each case. Assumes nothing.
use Prim.Native.Nat.{◌/◌}
use mathlib.Core.Path.{ap, sym, ◌∙◌}
use mathlib.Core.Bool.{not}
use native.Mathlib.Omega.{arith}
use lib.ListN.{length}
use Rattle.meaning.specs.Rows.{count_of_rows}
use Rattle.instructions.specs.Planned.{planned}
use Rattle.stepping.proofs.FitLaws.{few_rows}
use Rattle.stepping.proofs.OutcomeLaws.{ready}
use Rattle.stepping.proofs.SizeLaws.{well_kept_law}
use Rattle.stepping.proofs.ClearLaws.{filled}
use Rattle.stepping.proofs.CaseLaws.{cleared_after, unfit_leaves, bad_leaves, good_leaves}
use Rattle.stepping.proofs.step.Goals as goal

pub overflow_cast-count : goal.overflow_cast-count
overflow_cast-count c = omega (arith, few_rows _ c.requires.0)

pub returns-then-not-fit : goal.returns-then-not-fit
unfolding count_of_rows
returns-then-not-fit c =
    let s = c.args in
    (record {
      leaves = unfit_leaves s.k (count_of_rows s.rows.now) s.free.now s.refs.now s.sizes.now s.kept s.nodes.now s.work.now (planned s.rows.now s.event s.given.now) c.fit.result c.fit.ensures (ap not c.if-not-fit.true);
      visits = tt;
    })

pub kept_right-requires : goal.kept_right-requires
unfolding count_of_rows
kept_right-requires c =
    let f = rw c.if-not-fit.false at c.fit.ensures in
    (f, c.requires.3, c.requires.4)

pub returns-then-not-kept_right : goal.returns-then-not-kept_right
unfolding count_of_rows
returns-then-not-kept_right c =
    let s = c.args in
    let done = c.kept_right in
    let f = rw c.if-not-fit.false at c.fit.ensures in
    (record {
      leaves = bad_leaves s.k (count_of_rows s.rows.now) s.free.now s.refs.now s.sizes.now s.kept s.nodes.now s.work.now (planned s.rows.now s.event s.given.now) f (sym done.ensures.value ∙ c.if-not-kept_right.true)
          (cleared_after s.k (count_of_rows s.rows.now) s.free.now s.refs.now s.sizes.now s.kept s.nodes.now s.work.now f done.ensures.check_leaves.rest done.auto.work (filled 0 _ _ _ (omega arith) (omega (arith, f.room, done.auto.work)) (c.fill.ensures.after (λ y h. h))));
      visits = tt;
    })

pub worked-requires : goal.worked-requires
unfolding count_of_rows
worked-requires c =
    let s = c.args in
    let done = c.kept_right in
    let f = rw c.if-not-fit.false at c.fit.ensures in
    let good = c.if-not-kept_right.false in
    record {
      sizes_long = c.requires.4;
      fits = rw done.auto.work f;
      ready = (
        ready s.k s.free.now (length s.nodes.now / 3) (count_of_rows s.rows.now) s.refs.now s.kept s.nodes.now f.least f.few c.requires.3 f.whole f.small
            (well_kept_law s.k (count_of_rows s.rows.now) s.free.now s.refs.now s.sizes.now s.kept s.nodes.now (sym done.ensures.value ∙ good)),
        done.ensures.check_leaves.chained good,
      );
    }

pub returns : goal.returns
unfolding count_of_rows
returns c =
    let s = c.args in
    let done = c.kept_right in
    let f = rw c.if-not-fit.false at c.fit.ensures in
    record {
      leaves = good_leaves s.k (count_of_rows s.rows.now) s.free.now s.refs.now s.sizes.now s.kept s.nodes.now s.work.now (planned s.rows.now s.event s.given.now) f (sym done.ensures.value ∙ c.if-not-kept_right.false) done.ensures.check_leaves.rest done.auto.work c.worked.ensures.leaves;
      visits = c.worked.ensures.visits;
    }
