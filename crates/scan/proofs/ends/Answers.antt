-- `ends` meets its contract, by what is pending. Assumes nothing.
use native.Mathlib.Omega.{arith}
use mathlib.Core.Path.{refl, ap}
use Rattle.scan.specs.Pending.{pending_code}
use Rattle.scan.proofs.StepLaws.{gap_ends, letters_ends, digits_ends, dash_ends}
use Rattle.scan.proofs.ends.Goals as goal

pub returns-in-Nothing : goal.returns-in-Nothing
returns-in-Nothing c = gap_ends c.args.text.now _ _ _ _ _ (ap pending_code c.in-Nothing.is) c.may_end.ensures

pub returns-in-Letters : goal.returns-in-Letters
returns-in-Letters c = rw c.in-Letters.is (letters_ends c.args.text.now 1 c.in-Letters.from _ _ _ _ refl c.word_of.ensures c.ends_after.ensures)

pub returns-in-Digits : goal.returns-in-Digits
returns-in-Digits c = digits_ends c.args.text.now _ _ _ _ _ (ap pending_code c.in-Digits.is) c.ends_after-in-Digits.ensures

pub returns-in-Dash : goal.returns-in-Dash
returns-in-Dash c =
    let e = ap pending_code c.in-Dash.is in
    dash_ends c.args.text.now _ _ _ _ (λ u. omega (arith, e)) (λ u. omega (arith, e)) (λ u. omega (arith, e))
