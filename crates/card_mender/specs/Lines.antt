-- The list of blocks as numbers, two for each piece, and what `mend` leaves in the slices that it is lent. Assumes nothing.
use Rattle.std.specs.Prelude.{ℕ, ◌+◌, ◌*◌, ◌/◌, ◌≤◌, ◌≡◌, List, [], ◌∷◌, ◌++◌, map, length, drop, Option, Some, None}
use Rattle.cards.specs.Bytes.{joined}
use Rattle.cards.specs.Blocks.{Reason, check, shape, number}
use Rattle.cards.specs.Mending.{Listed, kept_less, gone, mended}
use Rattle.cards.specs.Mending as Mending

-- kept is 0, check 1, shape 2, number 3
unfoldable pub word : Reason → ℕ
word check = 1
word shape = 2
word number = 3

-- a line: the word, and the count of records dropped
unfoldable pub line_of : Listed → List ℕ
line_of (kept_less n) = 0 ∷ n ∷ []
line_of (gone why) = word why ∷ 0 ∷ []

unfoldable pub lines_of : List Listed → List ℕ
lines_of ls = joined (map line_of ls)

-- the count of pieces of so many bytes
unfoldable pub pieces_in : ℕ → ℕ
pieces_in n = (n + 511) / 512

-- the slices have room: for the card, and for two numbers a piece
pub record Room (card out list : List ℕ) : Type 0 where
  pub bytes : length card ≤ length out
  pub lines : 2 * pieces_in (length card) ≤ length list

-- the mended card stands in the first n bytes of `out`, and its list at the beginning of `list`; the rest of both is as it was
pub record Mends (card out list : List ℕ) (n : ℕ) (out₁ list₁ : List ℕ) : Type 0 where
  pub room : Room card out list
  pub put : out₁ ≡ mended card ++ drop n out
  pub count : n ≡ length (mended card)
  pub listed : list₁ ≡ lines_of (Mending.list card) ++ drop (2 * pieces_in (length card)) list

-- nothing is written where there is no room
pub record Leaves (card out list out₁ list₁ : List ℕ) : Type 0 where
  pub small : Room card out list → ⊥
  pub same_out : out₁ ≡ out
  pub same_list : list₁ ≡ list

abbrev pub MendsTo : List ℕ → List ℕ → List ℕ → Option ℕ → List ℕ → List ℕ → Type 0
MendsTo card out list (Some n) out₁ list₁ = Mends card out list n out₁ list₁
MendsTo card out list None out₁ list₁ = Leaves card out list out₁ list₁
