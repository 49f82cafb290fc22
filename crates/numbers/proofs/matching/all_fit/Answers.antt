use mathlib.Core.Path.{sym, ◌∙◌}
use native.Mathlib.Omega.{arith}
use Rattle.rule.specs.declared.Argument.TheVariants.{Variable}
use Rattle.numbers.proofs.FitLaws.{fits_off, fits_on, fits_end}
use Rattle.numbers.proofs.matching.all_fit.Goals as goal

pub returns-then-not-first_fits : goal.returns-then-not-first_fits
returns-then-not-first_fits c = sym (c.loop-i.invariant ∙ fits_off c.loop-i.i c.args.arguments.now c.args.values.now (Variable 0) (record { 0 = 0 }) c.loop-i-test.true (omega arith) c.first_fits.ensures c.if-not-first_fits.true)

pub loop-i-preserved : goal.loop-i-preserved
loop-i-preserved c = c.loop-i.invariant ∙ fits_on c.loop-i.i c.args.arguments.now c.args.values.now (Variable 0) (record { 0 = 0 }) c.loop-i-test.true (omega arith) c.first_fits.ensures c.if-not-first_fits.false

pub returns : goal.returns
returns c = sym (c.loop-i.invariant ∙ fits_end c.loop-i.i c.args.arguments.now c.args.values.now (omega arith) (omega arith))
