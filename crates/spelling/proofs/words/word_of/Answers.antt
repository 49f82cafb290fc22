-- `words::word_of` meets its contract, reserved word by reserved word. Assumes nothing.
use Prim.Native.Nat.{ℕ}
use native.Mathlib.Omega.{arith}
use mathlib.Core.Path.{◌≡◌, sym, ap}
use mathlib.Core.List.{List, [], ◌∷◌}
use lib.ListN.{length}
use Rattle.std.proofs.lemmas.Slice.Eq.{text_from_reads, HasBytesAt}
use Rattle.text.specs.Words.{word_of, pick, reserved, same, bytes_of}
use Rattle.spelling.specs.Codes.{code_of}
use Rattle.spelling.proofs.words.word_of.Goals as goal

as_spelled : (l w : List ℕ) → length w ≡ length l → HasBytesAt w 0 l → code_of (word_of l) ≡ code_of (word_of w)
as_spelled l w n h = sym (ap (λ (x : List ℕ). code_of (word_of x)) (text_from_reads w l n h))

pub returns-in-forall : goal.returns-in-forall
unfolding code_of word_of pick reserved same bytes_of
returns-in-forall c = as_spelled (102 ∷ 111 ∷ 114 ∷ 97 ∷ 108 ∷ 108 ∷ []) c.args.w.now (omega arith) (omega arith, (omega arith, (omega arith, (omega arith, (omega arith, (omega arith, tt))))))

pub returns-in-exists : goal.returns-in-exists
unfolding code_of word_of pick reserved same bytes_of
returns-in-exists c = as_spelled (101 ∷ 120 ∷ 105 ∷ 115 ∷ 116 ∷ 115 ∷ []) c.args.w.now (omega arith) (omega arith, (omega arith, (omega arith, (omega arith, (omega arith, (omega arith, tt))))))

pub returns-in-P : goal.returns-in-P
unfolding code_of word_of pick reserved same bytes_of
returns-in-P c = as_spelled (80 ∷ []) c.args.w.now (omega arith) (omega arith, tt)

pub returns-in-H : goal.returns-in-H
unfolding code_of word_of pick reserved same bytes_of
returns-in-H c = as_spelled (72 ∷ []) c.args.w.now (omega arith) (omega arith, tt)

pub returns-in-S : goal.returns-in-S
unfolding code_of word_of pick reserved same bytes_of
returns-in-S c = as_spelled (83 ∷ []) c.args.w.now (omega arith) (omega arith, tt)

pub returns-in-true : goal.returns-in-true
unfolding code_of word_of pick reserved same bytes_of
returns-in-true c = as_spelled (116 ∷ 114 ∷ 117 ∷ 101 ∷ []) c.args.w.now (omega arith) (omega arith, (omega arith, (omega arith, (omega arith, tt))))

pub returns-in-false : goal.returns-in-false
unfolding code_of word_of pick reserved same bytes_of
returns-in-false c = as_spelled (102 ∷ 97 ∷ 108 ∷ 115 ∷ 101 ∷ []) c.args.w.now (omega arith) (omega arith, (omega arith, (omega arith, (omega arith, (omega arith, tt)))))
