-- `monitor::start` meets its contract: what is left is what the decision settles. Assumes nothing.
use mathlib.Core.Path.{refl}
use native.Mathlib.Omega.{arith}
use Rattle.monitor.proofs.StartLaws.{few_rows, refuses, right_rule, starts}
use Rattle.monitor.proofs.start.Goals as goal

pub returns-in-Err : goal.returns-in-Err
returns-in-Err c = refuses _ _ _ _ _ c.judge.ensures.decides _ _ _ _ c.in-Err.is c.refused_start.ensures refl refl

pub overflow_cast-rows : goal.overflow_cast-rows
overflow_cast-rows c = omega (arith, few_rows _ (right_rule _ _ _ _ _ c.judge.ensures.decides _ c.in_default.is))

pub returns : goal.returns
returns c = starts _ _ _ _ _ c.judge.ensures.decides _ _ _ _ c.in_default.is c.started.ensures (c.fill.ensures.after (λ y h. h)) (c.fill-2.ensures.after (λ y h. h))
