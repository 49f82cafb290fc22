-- The record that a `Fact` says: its first `count` values, at most three. Assumes nothing.
use Rattle.std.specs.Prelude.{ℕ, min, Bool, true, false, List, [], ◌∷◌, ◌++◌, ltb, take, get_or}
use Rattle.cards.specs.Bytes.{bytes_of}
use Rattle.cards.specs.Moments.{Record}
use Rattle.cards.specs.Blocks.{flag_byte}
use Rattle.card_records.specs.declared.Fact.{Fact}

unfoldable pub record_from : Fact → Record
record_from f = record {
  stamp = f.stamp;
  predicate = f.predicate;
  values = take f.count (get_or f.values 0 0 ∷ get_or f.values 1 0 ∷ get_or f.values 2 0 ∷ []);
  last = f.last;
}

-- the value at place i, and 0 past the count
unfoldable pub used_by : Bool → ℕ → ℕ
used_by true n = n
used_by false n = 0

unfoldable pub used : ℕ → ℕ → ℕ → ℕ
used count i n = used_by (ltb i count) n

-- the count of values, the flag and two zero bytes
unfoldable pub marks : ℕ → Bool → List ℕ
marks count last = min count 3 ∷ flag_byte last ∷ 0 ∷ 0 ∷ []

-- the values, 12 bytes
unfoldable pub values_bytes : Fact → List ℕ
values_bytes f =
    bytes_of 4 (used f.count 0 (get_or f.values 0 0)) ++ (bytes_of 4 (used f.count 1 (get_or f.values 1 0)) ++ bytes_of 4 (used f.count 2 (get_or f.values 2 0)))
