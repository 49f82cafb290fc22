-- How a state, an answer and what looking a value up tells are laid out as numbers. Assumes nothing: these are definitions.
use Rattle.std.specs.Prelude.{ℕ, Bool, true, false, List, [], ◌∷◌, ◌++◌, get_or, take, drop}
use Rattle.meaning.specs.declared.State.{State}
use Rattle.numbers.specs.declared.Lookup.{Lookup}
use Rattle.numbers.specs.declared.Lookup.TheVariants.{Has, OneLeft, NoneLeft, Misfit}
use Rattle.monitor.specs.declared.Figures.{Figures}
use Rattle.monitor.specs.Said.{whole}
use Rattle.meaning.specs.declared.Answer.{Answer}
use Rattle.meaning.specs.declared.Answer.TheVariants.{Started, Verdict, Refused}

-- "The state carries k, the row count, the count of kept nodes, four value counts and 64 references", and "the 64 sizes": 135 numbers, in this order
unfoldable pub packed_state : State → List ℕ
packed_state s = s.k ∷ s.rows ∷ s.kept ∷ (s.counts ++ (s.refs ++ s.sizes))

-- the figures of the state that 135 numbers are, its references and its sizes
unfoldable pub figures_of : List ℕ → Figures
figures_of xs = record { k = get_or xs 0 0; rows = get_or xs 1 0; kept = get_or xs 2 0; counts = take 4 (drop 3 xs) }

unfoldable pub references_of : List ℕ → List ℕ
references_of xs = take 64 (drop 7 xs)

unfoldable pub sizes_in : List ℕ → List ℕ
sizes_in xs = take 64 (drop 71 xs)

-- the state that 135 numbers are
unfoldable pub unpacked_state : List ℕ → State
unpacked_state xs = whole (figures_of xs) (references_of xs) (sizes_in xs)

-- yes is 1 and no is 0
unfoldable pub bit : Bool → ℕ
bit true = 1
bit false = 0

-- The first 6 numbers of an answer: the refusal's number and place, then 0 and 0; or 0, and of a verdict yes or no, the kept nodes and
-- the room; and then the visits of the complements and of the sweep.
unfoldable pub first_six : Answer → ℕ → ℕ → List ℕ
first_six Started complements swept = 0 ∷ 0 ∷ 0 ∷ 0 ∷ complements ∷ swept ∷ []
first_six (Verdict y kept room) complements swept = 0 ∷ bit y ∷ kept ∷ room ∷ complements ∷ swept ∷ []
first_six (Refused n p) complements swept = n ∷ p ∷ 0 ∷ 0 ∷ complements ∷ swept ∷ []

-- the first 4 of them, before the visits
unfoldable pub first_four : Answer → List ℕ
first_four Started = 0 ∷ 0 ∷ 0 ∷ 0 ∷ []
first_four (Verdict y kept room) = 0 ∷ bit y ∷ kept ∷ room ∷ []
first_four (Refused n p) = n ∷ p ∷ 0 ∷ 0 ∷ []

-- An answer is 10 numbers: behind those it has, for each variable, how many values were newly numbered.
unfoldable pub packed_answer : Answer → ℕ → ℕ → List ℕ → List ℕ
packed_answer a complements swept numbered = first_six a complements swept ++ numbered

-- What looking a value up tells is 2 numbers: 0 and the value's number; 1 and 0, where it has none and one is left; 2 and 0, where none
-- is left; 3 and 0, where there is nothing to look in.
unfoldable pub packed_lookup : Lookup → List ℕ
packed_lookup (Has n) = 0 ∷ n.0 ∷ []
packed_lookup OneLeft = 1 ∷ 0 ∷ []
packed_lookup NoneLeft = 2 ∷ 0 ∷ []
packed_lookup Misfit = 3 ∷ 0 ∷ []
