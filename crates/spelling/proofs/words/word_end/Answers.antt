use native.Mathlib.Omega.{arith}
use mathlib.Core.Path.{sym, ◌∙◌}
use Rattle.spelling.proofs.RunLaws.{run_none, run_more, run_stops, run_ends}
use Rattle.spelling.proofs.words.word_end.Goals as goal

pub loop-i-init : goal.loop-i-init
loop-i-init c = run_none _ _ c.requires

pub returns-then-not-is_word_byte : goal.returns-then-not-is_word_byte
returns-then-not-is_word_byte c = run_stops _ _ _ c.loop-i.invariant (omega arith) (sym c.is_word_byte.ensures ∙ c.if-not-is_word_byte.true)

pub loop-i-preserved : goal.loop-i-preserved
loop-i-preserved c = run_more _ _ _ c.loop-i.invariant (omega arith) (sym c.is_word_byte.ensures ∙ c.if-not-is_word_byte.false)

pub returns : goal.returns
returns c = run_ends _ _ _ c.loop-i.invariant (omega arith)
