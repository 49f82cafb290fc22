-- `looks::step` meets its contract. Assumes nothing.
use native.Mathlib.Omega.{arith}
use mathlib.Core.Path.{ap}
use Rattle.scan.specs.Pending.{pending_code}
use Rattle.scan.proofs.StepLaws.{gap_next, arrow_steps, arrow_none, arrow_stops}
use Rattle.scan.proofs.looks.step.Goals as goal

pub returns-in-Nothing : goal.returns-in-Nothing
returns-in-Nothing c = gap_next _ _ _ _ _ _ c.requires.0 c.requires.1 _ (ap pending_code c.in-Nothing.is) c.begin.ensures

pub returns-then-text-at-ne62 : goal.returns-then-text-at-ne62
returns-then-text-at-ne62 c =
    let e = ap pending_code c.in-Dash.is in
    arrow_stops _ _ _ _ _ _ c.requires.0 c.requires.1 (λ u. omega (arith, e)) (λ u. omega (arith, e)) (λ u. omega (arith, e)) c.if-text-at-ne62.true

pub returns-in_err-after-in-Dash : goal.returns-in_err-after-in-Dash
returns-in_err-after-in-Dash c =
    let e = ap pending_code c.in-Dash.is in
    rw c.from_residual.ensures (arrow_none _ _ _ _ _ _ c.requires.0 c.requires.1 (λ u. omega (arith, e)) (λ u. omega (arith, e)) (λ u. omega (arith, e)) c.if-text-at-ne62.false c.in_err-after-in-Dash.ensures)

pub returns-in_ok-after-in-Dash : goal.returns-in_ok-after-in-Dash
returns-in_ok-after-in-Dash c =
    let e = ap pending_code c.in-Dash.is in
    arrow_steps _ _ _ _ _ _ c.requires.0 c.requires.1 _ _ (λ u. omega (arith, e)) (λ u. omega (arith, e)) (λ u. omega (arith, e)) c.if-text-at-ne62.false c.in_ok-after-in-Dash.ensures
