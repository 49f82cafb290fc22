-- A block's shape by tests of its bytes: what the code tests instead of writing the block anew. proofs/ShapeLaws.antt shows that it is the
-- same. Assumes nothing.
use Rattle.std.specs.Prelude.{ℕ, zero, suc, ◌+◌, ◌*◌, ◌≤◌, ◌≡◌, Bool, true, ◌&&◌, List, [], ◌∷◌, eqb, leb, length, take, drop, get_or}
use Rattle.cards.specs.Moments.{Record}
use Rattle.cards.specs.Blocks.{record_of}

-- every byte is 0
unfoldable pub unused : List ℕ → Bool
unused [] = true
unused (b ∷ bs) = eqb b 0 && unused bs

-- 24 bytes of a record: at most 3 values, a flag of 0 or 1, two zero bytes, and 0 past the values
unfoldable pub record_shaped : List ℕ → Bool
record_shaped bs = leb (get_or bs 8 0) 3 && (leb (get_or bs 9 0) 1 && (eqb (get_or bs 10 0) 0 && (eqb (get_or bs 11 0) 0 && unused (drop (12 + 4 * get_or bs 8 0) bs))))

-- the first `count` parts of `size` bytes pass a test, and the rest is unused
unfoldable pub parts_pass : (List ℕ → Bool) → ℕ → ℕ → List ℕ → Bool
parts_pass test size zero bs = unused bs
parts_pass test size (suc count) bs = test (take size bs) && parts_pass test size count (drop size bs)

-- 510 bytes of a block: byte 0 is 75, at most 21 records, each of a good shape, and the rest unused
unfoldable pub block_shaped : List ℕ → Bool
block_shaped bs = eqb (get_or bs 0 0) 75 && (leb (get_or bs 1 0) 21 && parts_pass record_shaped 24 (get_or bs 1 0) (drop 6 bs))

-- the first `count` records from these bytes on
unfoldable pub records_from : ℕ → List ℕ → List Record
records_from zero bs = []
records_from (suc count) bs = record_of (take 24 bs) ∷ records_from count (drop 24 bs)

-- 512 bytes with a good shape, of which byte 1 is a count of records
pub record Shaped (bs : List ℕ) : Type 0 where
  pub whole : length bs ≡ 512
  pub few : get_or bs 1 0 ≤ 21
