-- `kept_right` meets its contract: the check, and then the sizes, found in front of the chains. Assumes nothing.
use mathlib.Core.Path.{sym, ◌∙◌}
use Rattle.stepping.proofs.CaseLaws.{sized}
use Rattle.stepping.proofs.SizeLaws.{checked_asked, ill_kept, sized_kept, sized_leaves}
use Rattle.stepping.proofs.kept_right.Goals as goal

pub check-requires : goal.check-requires
check-requires c =
    let f = c.requires.0 in
    record { le_k = (f.least, f.most, f.few, c.requires.1); sized = sized f }

pub returns-else-check : goal.returns-else-check
returns-else-check c =
    let s = c.args in
    let bad = c.if-check.false in
    record {
      value = bad ∙ ill_kept s.k s.count s.allowed.now s.refs.now s.sizes.now s.kept s.nodes.now s.work.now c.requires.0 c.requires.1 (sym c.check.ensures.value ∙ bad);
      check_leaves = c.check.ensures.check_leaves;
    }

pub invariant_of-sizes_right : goal.invariant_of-sizes_right
invariant_of-sizes_right c =
    let s = c.args in
    let well = sym c.check.ensures.value ∙ c.if-check.true in
    let asked = checked_asked s.k s.count s.allowed.now s.refs.now s.sizes.now s.kept s.nodes.now s.work.now c.requires.0 c.requires.1 well c.check.new.work c.check.auto.work in
    record { table = asked.0.0 }

pub sizes_right-requires : goal.sizes_right-requires
sizes_right-requires c =
    let s = c.args in
    let well = sym c.check.ensures.value ∙ c.if-check.true in
    let asked = checked_asked s.k s.count s.allowed.now s.refs.now s.sizes.now s.kept s.nodes.now s.work.now c.requires.0 c.requires.1 well c.check.new.work c.check.auto.work in
    record { leading = asked.0.1; count_in_bounds = (asked.1, c.requires.2) }

pub returns-then-check : goal.returns-then-check
returns-then-check c =
    let s = c.args in
    let found = c.sizes_right in
    let good = c.if-check.true in
    let well = sym c.check.ensures.value ∙ good in
    record {
      value = sized_kept s.k s.count s.allowed.now s.refs.now s.sizes.now s.kept s.nodes.now s.work.now c.requires.0 c.requires.1 well found.result found.ensures.decides;
      check_leaves = sized_leaves s.k s.count s.allowed.now s.refs.now s.sizes.now s.kept s.nodes.now s.work.now c.requires.0 c.requires.1 well (rw good at c.check.ensures.check_leaves) found.ensures.rest found.result;
    }
