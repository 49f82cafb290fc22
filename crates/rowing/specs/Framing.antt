-- The rows, operators and frames of the code, and what they stand for. Assumes nothing: these are definitions.
use Rattle.std.specs.Prelude.{ℕ, List, Option}
use Rattle.meaning.specs.Rows
use Rattle.text.specs.Words.{Binary, sinces, ands, ors, implies, once, historically, previously, negation, universal, existential}
use Rattle.text.specs.Held.{Held, mark, applies, quantifies, joins, room_for, made, keeps}
use Rattle.rowing.specs.Denoted.{Turns}
use Rattle.rowing.specs.declared.rows.Row.{Row}
use Rattle.rowing.specs.declared.rows.Row.TheVariants.{Truth, Both, Neg, Since, Previous, Exists}
use Rattle.rowing.specs.declared.frames.Operator.{Operator}
use Rattle.rowing.specs.declared.frames.Operator.TheVariants as Op
use Rattle.rowing.specs.declared.frames.Frame.{Frame}
use Rattle.rowing.specs.declared.frames.Frame.TheVariants as Waits

-- a row
unfoldable pub row_of : Row → Rows.Row
row_of Truth = Rows.truth
row_of (Both l r) = Rows.both l r
row_of (Neg r) = Rows.neg r
row_of (Since l r) = Rows.since l r
row_of (Previous r) = Rows.previous r
row_of (Exists v r) = Rows.exists v r

-- an operator
unfoldable pub binary_of : Operator → Binary
binary_of Op.Since = sinces
binary_of Op.And = ands
binary_of Op.Or = ors
binary_of Op.Implies = implies

-- a frame: what waits, with the row or the slot that it holds
unfoldable pub held_of : Frame → Held
held_of Waits.Parenthesis = mark
held_of (Waits.Once t) = applies once t
held_of (Waits.Historically t) = applies historically t
held_of Waits.Before = applies previously 0
held_of Waits.Not = applies negation 0
held_of (Waits.ForAll v) = quantifies universal v
held_of (Waits.Exists v) = quantifies existential v
held_of (Waits.Since r) = joins sinces r
held_of (Waits.And r) = joins ands r
held_of (Waits.Or r) = joins ors r
held_of (Waits.Implies r) = joins implies r

-- the room of a frame, a parenthesis having room for anything
unfoldable pub room_in : Held → ℕ
room_in mark = 9
room_in (applies o t) = 0
room_in (quantifies q v) = 4
room_in (joins o r) = room_for (joins o r)

-- a frame takes its operand
abbrev pub Late : Frame → List (List ℕ) → ℕ → List (List ℕ) → Option ℕ → Type 0
Late frame table row table' row' = Turns (made (held_of frame)) table row table' row'

-- an operator comes
abbrev pub Early : Operator → List (List ℕ) → ℕ → List (List ℕ) → Option ℕ → Type 0
Early operator table row table' row' = Turns (keeps (binary_of operator)) table row table' row'
