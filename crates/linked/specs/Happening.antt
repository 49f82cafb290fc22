-- The event that some numbers are, five for each of its facts. Assumes nothing: these are definitions.
use Rattle.std.specs.Prelude.{ℕ, min, ◌*◌, ◌/◌, List, [], ◌∷◌, ◌++◌, map, length, get_or, drop}
use Rattle.meaning.specs.declared.Event.{Event}
use Rattle.meaning.specs.declared.Fact.{Fact}

-- the fact that the numbers begin with: a predicate, a count and three values; a number past the last is 0
unfoldable pub first_fact : List ℕ → Fact
first_fact xs =
    record {
      predicate = get_or xs 0 0;
      count = get_or xs 1 0;
      values = record { 0 = get_or xs 2 0 } ∷ record { 0 = get_or xs 3 0 } ∷ record { 0 = get_or xs 4 0 } ∷ [];
    }

-- the fact at place i
unfoldable pub fact_at : List ℕ → ℕ → Fact
fact_at xs i = first_fact (drop (5 * i) xs)

-- the count of the facts, or 9: "more than 8 facts gives 5", however many they are
unfoldable pub count_of : List ℕ → ℕ
count_of xs = min (length xs / 5) 9

-- the event of these facts: its first eight, and their count
unfoldable pub event_of : List ℕ → Event
event_of xs =
    record {
      count = count_of xs;
      facts = fact_at xs 0 ∷ fact_at xs 1 ∷ fact_at xs 2 ∷ fact_at xs 3 ∷ fact_at xs 4 ∷ fact_at xs 5 ∷ fact_at xs 6 ∷ fact_at xs 7 ∷ [];
    }

-- facts as a caller writes them, one after the other. That they are the event's facts is a theorem.
unfoldable pub written : List Fact → List ℕ
written [] = []
written (f ∷ fs) = (f.predicate ∷ f.count ∷ map (λ v. v.0) f.values) ++ written fs
