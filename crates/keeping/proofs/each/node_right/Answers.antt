-- `each::node_right` meets its contract. Assumes nothing.
use mathlib.Core.Path.{sym, ◌∙◌}
use Rattle.keeping.proofs.CheckLaws.{right_same, right_low, right_low_level, right_high, right_high_level}
use Rattle.keeping.proofs.each.node_right.Goals as goal

pub returns-then-low-high : goal.returns-then-low-high
returns-then-low-high c = right_same _ _ c.if-low-high.true

pub returns-then-j-low : goal.returns-then-j-low
returns-then-j-low c = right_low _ _ c.if-low-high.false c.if-j-low.true

pub returns-then-not-leads_above : goal.returns-then-not-leads_above
returns-then-not-leads_above c =
    let e2 = c in
    right_low_level _ _ e2.if-low-high.false e2.if-j-low.false (sym c.leads_above.ensures ∙ c.if-not-leads_above.true)

pub returns-then-j-high : goal.returns-then-j-high
returns-then-j-high c =
    let e3 = c in
    let e2 = e3 in
    right_high _ _ e2.if-low-high.false e2.if-j-low.false (sym e3.leads_above.ensures ∙ e3.if-not-leads_above.false) c.if-j-high.true

pub returns : goal.returns
returns c =
    let e3 = c in
    let e2 = e3 in
    c.leads_above-2.ensures
    ∙ right_high_level _ _ e2.if-low-high.false e2.if-j-low.false (sym e3.leads_above.ensures ∙ e3.if-not-leads_above.false) c.if-j-high.false
