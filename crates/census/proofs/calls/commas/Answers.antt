use mathlib.Core.Path.{ap}
use Rattle.spelling.specs.declared.kinds.Kind.TheVariants.{Close, Comma}
use Rattle.spelling.specs.Kinds.{kind_code}
use Rattle.spelling.proofs.Each.{kind_same}
use Rattle.census.proofs.CommaLaws.{count_ends, count_shut, count_comma, count_other}
use Rattle.census.proofs.calls.commas.Goals as goal

pub returns-in-Close : goal.returns-in-Close
returns-in-Close c = count_shut _ _ _ _ c.loop-w.invariant _ c.in-Some.ensures (ap kind_code c.in-Close.is)

pub loop-w-preserved-in-Comma : goal.loop-w-preserved-in-Comma
loop-w-preserved-in-Comma c = count_comma _ _ _ _ c.loop-w.invariant _ c.in-Some.ensures (ap kind_code c.in-Comma.is)

pub loop-w-preserved : goal.loop-w-preserved
loop-w-preserved c =
    count_other _ _ _ _ c.loop-w.invariant _ c.in-Some.ensures (λ e. c.in_default-word.not-Close (kind_same _ Close e))
    (λ e. c.in_default-word.not-Comma (kind_same _ Comma e))

pub returns : goal.returns
returns c = count_ends _ _ _ _ c.loop-w.invariant c.in_default.ensures
