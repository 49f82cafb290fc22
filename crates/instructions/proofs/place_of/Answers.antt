-- `place_of` meets its contract: the arguments that are used are looked at in their order. Assumes nothing.
use mathlib.Core.Path.{sym, ◌∙◌}
use native.Mathlib.Omega.{arith}
use Rattle.rule.specs.declared.Argument.TheVariants.{Variable}
use Rattle.instructions.proofs.ReadLaws.{place_first, place_nowhere}
use Rattle.instructions.proofs.place_of.Goals as goal

pub returns-then-is_variable : goal.returns-then-is_variable
returns-then-is_variable c =
    rw (c.unwrap_or.ensures, c.number_of.ensures)
    (place_first c.args.v _ _ _ c.args.atom.arguments c.loop-j.j _ (omega arith) (omega arith) (sym c.is_variable.ensures ∙ c.if-is_variable.true) (c.loop-j.invariant _))

pub returns : goal.returns
returns c = place_nowhere c.args.v _ _ 0 _ c.args.atom.arguments (Variable 0) (λ k q l. c.loop-j.invariant _ k (omega arith))
