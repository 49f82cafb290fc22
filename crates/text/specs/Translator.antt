-- The answer that the machine gives. Part of the machine: the theorems say that it is the answer of Translate.
-- Assumes nothing: these are definitions.
use Rattle.std.specs.Prelude.{ℕ, Bool, true, false, List, eqb, leb, length}
use Rattle.text.specs.Machine.{Result, refused, reads}
use Rattle.text.specs.Reader.{read, place_of}
use Rattle.text.specs.Translate.{Answer, refuses, answer_of}

unfoldable pub judge_text : Bool → Bool → Result → ℕ → Answer
judge_text false short r i = refuses 1 0
judge_text true false r i = refuses 2 0
judge_text true true refused i = refuses 3 i
judge_text true true (reads f) i = answer_of f

-- the answer to a row slice of so many numbers and a text
unfoldable pub translate : ℕ → List ℕ → Answer
translate size bytes = judge_text (eqb size 576) (leb (length bytes) 4096) (read bytes) (place_of bytes)
