-- Rows of seven numbers: the records that they say, and when they are moments. Assumes nothing.
use Rattle.std.specs.Prelude.{ℕ, zero, suc, ◌/◌, Bool, ◌&&◌, List, [], ◌∷◌, eqb, leb, length, take, drop, get_or}
use Rattle.cards.specs.Moments.{Record}
use Rattle.cards.specs.Counting.{Open, belongs, next}

-- a row: stamp, predicate, count of values, three values, of which those past the count say nothing, and 1 for the last of its moment
unfoldable pub row_record : List ℕ → Record
row_record xs = record {
  stamp = get_or xs 0 0;
  predicate = get_or xs 1 0;
  values = take (get_or xs 2 0) (get_or xs 3 0 ∷ get_or xs 4 0 ∷ get_or xs 5 0 ∷ []);
  last = eqb (get_or xs 6 0) 1;
}

-- the records of the first n rows
unfoldable pub rows_from : ℕ → List ℕ → List Record
rows_from zero xs = []
rows_from (suc n) xs = row_record (take 7 xs) ∷ rows_from n (drop 7 xs)

unfoldable pub rows_in : List ℕ → List Record
rows_in rows = rows_from (length rows / 7) rows

-- the first n rows are moments after what is open: at most three values, each record can belong, and nothing is open at the end
unfoldable pub right_from : Open → ℕ → List ℕ → Bool
right_from o zero xs = eqb o.count 0
right_from o (suc n) xs =
    leb (get_or xs 2 0) 3 && (belongs o (row_record (take 7 xs)) && right_from (next o (row_record (take 7 xs))) n (drop 7 xs))
