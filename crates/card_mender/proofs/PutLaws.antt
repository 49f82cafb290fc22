-- The words of the list, and the count of pieces. Assumes nothing.
use Prim.Native.Nat.{ℕ, ◌+◌, ◌/◌, ◌%◌, min}
use native.Mathlib.Omega.{arith}
use mathlib.Core.Path.{◌≡◌, refl}
use denote.Enum.Declared.{tag_of}
use Rattle.card_block.specs.contracts.Reason.{the_type}
use Rattle.card_block.specs.declared.Reason.{Reason}
use Rattle.card_block.specs.declared.Reason.TheVariants.{Check, Shape, Number}
use Rattle.card_block.specs.Judging.{meant}
use Rattle.card_mender.specs.Lines.{word, pieces_in}

-- the words: a reason's number
pub word_is : (why : Reason) → tag_of the_type why + 1 ≡ word (meant why)
unfolding word meant
word_is Check = refl
word_is Shape = refl
word_is Number = refl

-- the count of pieces
pub pieces_are : (n k : ℕ) → k ≡ n / 512 + min 1 (n % 512) → k ≡ pieces_in n
unfolding pieces_in
pieces_are n k e = omega arith
