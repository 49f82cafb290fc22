use native.Mathlib.Omega.{arith}
use Rattle.lines.proofs.Opens.{none_past, none_first}
use Rattle.lines.proofs.Begun.{begun_first, begun_more, begun_stops, begun_zero, begun_over}
use Rattle.lines.proofs.number_at.Goals as goal

pub returns-in_err-first : goal.returns-in_err-first
returns-in_err-first c = rw c.from_residual.ensures (none_past c.in_err-first.ensures.lookup.3)

pub returns-then-not-is_ascii_digit : goal.returns-then-not-is_ascii_digit
returns-then-not-is_ascii_digit c =
    let found = c.in_ok-first.ensures.lookup.3 in
    none_first found.0 (λ d. omega (arith, d, found.1 0, c.if-not-is_ascii_digit.ensures.cases))

pub loop-i-init : goal.loop-i-init
loop-i-init c =
    let found = c.in_ok-first.ensures.lookup.3 in
    begun_first _ _ _ found.0 (omega (arith, found.1 0, c.if-not-is_ascii_digit.ensures.cases)) (omega (arith, found.1 0, c.from-value.ensures))

pub returns-then-not-is_ascii_digit-2 : goal.returns-then-not-is_ascii_digit-2
returns-then-not-is_ascii_digit-2 c =
    begun_stops c.loop-i.invariant (omega arith) (λ d. omega (arith, d, c.if-not-is_ascii_digit-2.ensures.cases))

pub returns-then-value-eq0 : goal.returns-then-value-eq0
returns-then-value-eq0 c =
    begun_zero
    c.loop-i.invariant
    (omega arith)
    (omega (arith, c.if-not-is_ascii_digit-2.ensures.cases))
    (omega arith)

pub returns-then-more-gt-LARGEST : goal.returns-then-more-gt-LARGEST
returns-then-more-gt-LARGEST c =
    begun_over
    _
    c.loop-i.invariant
    (omega arith)
    (omega (arith, c.if-not-is_ascii_digit-2.ensures.cases))
    (omega arith)
    c.from.ensures
    (omega arith)

pub loop-i-preserved : goal.loop-i-preserved
loop-i-preserved c =
    begun_more
    _
    c.loop-i.invariant
    (omega arith)
    (omega (arith, c.if-not-is_ascii_digit-2.ensures.cases))
    (omega arith)
    c.from.ensures
    (omega arith)
