-- Writing moments on a card: which moments can stand on one, and the blocks, filled one after the other. Assumes nothing.
use Rattle.std.specs.Prelude.{ℕ, zero, suc, ◌≤◌, ◌<◌, Bool, true, false, List, [], ◌∷◌, map, length, take, drop}
use Rattle.cards.specs.Bytes.{joined}
use Rattle.cards.specs.Moments.{Record, Fact, Moment}
use Rattle.cards.specs.Blocks.{Block}
use Rattle.cards.specs.Mending.{card_bytes}

-- P holds of each element
abbrev pub Every {ℓ} : {A : Type ℓ} → (A → Type 0) → List A → Type 0
Every P [] = Unit {0}
Every P (x ∷ xs) = P x × Every P xs

-- n has four bytes
abbrev pub Fits : ℕ → Type 0
Fits n = n < 4294967296

-- a fact that a record can hold: "argument count 0 to 3"
pub record RightFact (f : Fact) : Type 0 where
  pub predicate : Fits f.predicate
  pub values : Every Fits f.values
  pub few : length f.values ≤ 3

-- "A moment has 1 to 8 records"
pub record RightMoment (m : Moment) : Type 0 where
  pub stamp : Fits m.stamp
  pub facts : Every RightFact m.facts
  pub some : 1 ≤ length m.facts
  pub few : length m.facts ≤ 8

-- the record of a fact
unfoldable pub record_for : ℕ → Fact → Bool → Record
record_for stamp f last = record { stamp = stamp; predicate = f.predicate; values = f.values; last = last }

-- the records of facts, the last one flagged
unfoldable pub records_for : ℕ → List Fact → List Record
records_for stamp [] = []
records_for stamp (f ∷ []) = record_for stamp f true ∷ []
records_for stamp (f ∷ g ∷ fs) = record_for stamp f false ∷ records_for stamp (g ∷ fs)

unfoldable pub records_of : Moment → List Record
records_of m = records_for m.stamp m.facts

-- blocks from number n on, each filled with 21 records before the next; there are at most `turns` of them
unfoldable pub fill : ℕ → ℕ → List Record → List Block
fill zero n rs = []
fill (suc turns) n [] = []
fill (suc turns) n (r ∷ rs) = record { number = n; records = take 21 (r ∷ rs) } ∷ fill turns (suc n) (drop 21 (r ∷ rs))

-- the blocks of a card that moments are written on: numbers from 0
unfoldable pub written : List Moment → List Block
written ms = fill (length (joined (map records_of ms))) 0 (joined (map records_of ms))

unfoldable pub write : List Moment → List ℕ
write ms = card_bytes (written ms)
