-- `bytes::is_word_byte` meets its contract, by the rule of its table. Assumes nothing.
use native.Mathlib.Omega.{arith}
use Rattle.spelling.proofs.Classes.{wordy_bytes, word_right}
use Rattle.spelling.proofs.bytes.is_word_byte.Goals as goal

pub returns : goal.returns
unfolding wordy_bytes
returns c = word_right c.args.b (omega arith)
