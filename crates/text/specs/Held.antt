-- The frames by row numbers, as the code keeps them: what waits for an operand, and what it makes. Part of the machine, not of the meaning. Assumes nothing: these are definitions.
use Rattle.std.specs.Prelude.{ℕ, Bool, true, false, List, [], ◌∷◌, ltb}
use Rattle.text.specs.Words.{Prefix, Binary, sinces, ands, ors, implies, Quantifier}
use Rattle.text.specs.Grammar.{level, right_level}
use Rattle.text.specs.Emit.{Rowed, negated, binary_rows, applied_rows, bound_rows}

-- a parenthesis; a prefix operator with the row of true (where it needs one); a quantifier with its slot; an operator with the row
-- of what it keeps of its left operand
pub data Held : Type 0 where
  mark : Held
  applies : Prefix → ℕ → Held
  quantifies : Quantifier → ℕ → Held
  joins : Binary → ℕ → Held

-- the loosest level of an operand that it may take
unfoldable pub room_for : Held → ℕ
room_for mark = 4
room_for (applies o t) = 0
room_for (quantifies q v) = 4
room_for (joins o r) = right_level o

-- the operand has ended
unfoldable pub made : Held → Rowed → Rowed
made mark m = m
made (applies o t) m = applied_rows o t m
made (quantifies q v) m = bound_rows q v m
made (joins o r) m = binary_rows o r m

-- what an operator keeps of its left operand
unfoldable pub keeps : Binary → Rowed → Rowed
keeps sinces m = m
keeps ands m = m
keeps ors m = negated m
keeps implies m = negated (negated m)

-- rows, and the frames that wait
pub record Waiting : Type 0 where
  pub rows : List (List ℕ)
  pub stack : List Held

-- an operator has come: the frames that bind tighter take their operand, and it waits for its right one
unfoldable pub push_rows : Binary → Rowed → List Held → Waiting
push_rows o m [] = record { rows = (keeps o m).rows; stack = joins o (keeps o m).row ∷ [] }
push_rows o m (h ∷ hs) =
    elim (ltb (room_for h) (level o))
    [ true ↦ push_rows o (made h m) hs | false ↦ record { rows = (keeps o m).rows; stack = joins o (keeps o m).row ∷ h ∷ hs } ]

-- `)` has come: the frames take their operand, up to the last mark
pub record Shut : Type 0 where
  pub last : Rowed
  pub stack : List Held

unfoldable pub is_mark : Held → Bool
is_mark mark = true
is_mark (applies o t) = false
is_mark (quantifies q v) = false
is_mark (joins o r) = false

unfoldable pub shut_rows : Rowed → List Held → Shut
shut_rows m [] = record { last = m; stack = [] }
shut_rows m (h ∷ hs) = elim (is_mark h) [ true ↦ record { last = m; stack = hs } | false ↦ shut_rows (made h m) hs ]

-- the end has come: all frames take their operand
unfoldable pub end_rows : Rowed → List Held → Rowed
end_rows m [] = m
end_rows m (h ∷ hs) = end_rows (made h m) hs
