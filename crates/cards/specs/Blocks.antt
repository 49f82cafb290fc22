-- A record's and a block's bytes, and what a piece of a card is by itself. Good shape is said by writing: the bytes are those that
-- the block's own number and records are written as. Assumes nothing.
use Rattle.std.specs.Prelude.{ℕ, zero, suc, Bool, true, false, List, [], ◌∷◌, ◌++◌, map, eqb, length, take, drop, get_or}
use Rattle.cards.specs.Bytes.{bytes_of, number_of, filled, parts, joined, same}
use Rattle.cards.specs.Bytes
use Rattle.cards.specs.Moments.{Record}

-- the flag's byte
unfoldable pub flag_byte : Bool → ℕ
flag_byte true = 1
flag_byte false = 0

-- "stamp (4 bytes), predicate (4), argument count (1), flag (1), two zero bytes, three values (4 each, unused 0)"
unfoldable pub record_bytes : Record → List ℕ
record_bytes r =
    bytes_of 4 r.stamp ++ (bytes_of 4 r.predicate ++ (length r.values ∷ flag_byte r.last ∷ 0 ∷ 0 ∷ filled 12 (joined (map (bytes_of 4) r.values))))

-- the record that 24 bytes say; there are never more than three values
unfoldable pub record_of : List ℕ → Record
record_of bs = record {
  stamp = number_of (take 4 bs);
  predicate = number_of (take 4 (drop 4 bs));
  values = take (get_or bs 8 0) (map number_of (parts 4 3 (drop 12 bs)));
  last = eqb (get_or bs 9 0) 1;
}

-- a block: its number and its records
pub record Block : Type 0 where
  pub number : ℕ
  pub records : List Record

-- "Byte 0 is 75; byte 1 the record count; bytes 2 to 5 the block number; then 21 records of 24 bytes, unused ones 0"
unfoldable pub body : Block → List ℕ
body b = filled 510 (75 ∷ length b.records ∷ (bytes_of 4 b.number ++ joined (map record_bytes b.records)))

-- "bytes 510 and 511 the check"
unfoldable pub block_bytes : Block → List ℕ
block_bytes b = body b ++ Bytes.check (body b)

-- the block that 512 bytes say; there are never more than 21 records
unfoldable pub block_of : List ℕ → Block
block_of bs = record {
  number = number_of (take 4 (drop 2 bs));
  records = map record_of (take (get_or bs 1 0) (parts 24 21 (drop 6 bs)));
}

-- the three reasons
pub data Reason : Type 0 where
  check : Reason
  shape : Reason
  number : Reason

-- a piece by itself: a block, or bytes with a bad check or a bad shape
pub data Piece : Type 0 where
  good : Block → Piece
  faulty : Reason → Piece

-- the tests in their order: 512 bytes, the check, the shape
unfoldable pub piece_by : Bool → Bool → Bool → Block → Piece
piece_by false checked shaped b = faulty shape
piece_by true false shaped b = faulty check
piece_by true true false b = faulty shape
piece_by true true true b = good b

unfoldable pub piece_of : List ℕ → Piece
piece_of bs = piece_by (eqb (length bs) 512) (same (Bytes.check (take 510 bs)) (drop 510 bs)) (same (body (block_of bs)) (take 510 bs)) (block_of bs)

-- the pieces of a card: 512 bytes each, the last may be shorter; there are at most `turns` of them
unfoldable pub cut : ℕ → List ℕ → List (List ℕ)
cut zero bs = []
cut (suc turns) [] = []
cut (suc turns) (b ∷ bs) = take 512 (b ∷ bs) ∷ cut turns (drop 512 (b ∷ bs))

unfoldable pub pieces : List ℕ → List Piece
pieces bytes = map piece_of (cut (length bytes) bytes)
