-- `older_age` meets its contract. Assumes nothing.
use Prim.Native.Nat.{ℕ, ◌+◌}
use mathlib.Core.Path.{ap}
use native.Mathlib.Omega.{arith}
use Rattle.aging.proofs.EndLaws.{short_longer}
use Rattle.aging.proofs.NextLaws.{older_none, older_within, older_longer}
use Rattle.aging.proofs.age.older_age.Goals as goal

pub returns-in_err-age : goal.returns-in_err-age
returns-in_err-age c = rw (c.from_residual.ensures, c.in_err-age.was) (older_none _ _, tt)

pub returns-in-Within : goal.returns-in-Within
returns-in-Within c =
    let p = rw c.in-Within.is at c.requires.0 in
    rw (c.in-Within.is, c.in_ok-age.was, c.then_some.ensures) (older_within _ _ _ _ (ap (λ (m : ℕ). c.in_ok-age.field-0 + m) c.min.ensures) p)

pub returns-in-Longer : goal.returns-in-Longer
returns-in-Longer c =
    let p = rw c.in-Longer.is at c.requires.0 in
    rw (c.in-Longer.is, c.in_ok-age.was) (older_longer _ _ _ _ (ap (λ (m : ℕ). c.in_ok-age.field-0 + m) c.min.ensures) p _ c.min-in-Longer.ensures)

pub overflow_add-d : goal.overflow_add-d
overflow_add-d c = omega (arith, short_longer _ (rw c.in-Longer.is at c.requires.0))
