-- The stack of frames. Assumes nothing: these are definitions.
use Rattle.std.specs.Prelude.{ℕ, zero, suc, ◌≤◌, ◌<◌, ◌≡◌, true, false, List, [], ◌∷◌, Option, Some, None, ltb, length, get_or}
use Rattle.text.specs.Words.{Binary}
use Rattle.text.specs.Emit.{Rowed}
use Rattle.text.specs.Held.{Held, made, Shut, push_rows, shut_rows, end_rows}
use Rattle.rowing.specs.declared.frames.Frame.{Frame}
use Rattle.rowing.specs.declared.frames.Frame.TheVariants.{Parenthesis}
use Rattle.rowing.specs.Denoted.{Denotes}
use Rattle.rowing.specs.Framing.{held_of, room_in}

-- the frames, the last first
unfoldable pub waiting_in : List Frame → ℕ → List Held
waiting_in frames zero = []
waiting_in frames (suc n) = held_of (get_or frames n Parenthesis) ∷ waiting_in frames n

-- the last frame has no room below the limit
abbrev pub Closed : ℕ → List Held → Type 0
Closed limit [] = Unit {0}
Closed limit (h ∷ hs) = limit ≤ room_in h

-- the last frame goes, where it has room below the limit
abbrev pub Pops : ℕ → List Held → List Held → Option Frame → Type 0
Pops limit stack stack' (Some frame) = (stack ≡ held_of frame ∷ stack') × (room_in (held_of frame) < limit)
Pops limit stack stack' None = (stack' ≡ stack) × Closed limit stack

-- rows and frames are left: these; or, where there is no answer, more than 64 rows
abbrev pub Leaves : List (List ℕ) → Option ℕ → List Held → Shut → Type 0
Leaves table (Some row) stack s = record { last = record { rows = table; row = row }; stack = stack } ≡ s
Leaves table None stack s = 64 < length s.last.rows

-- the frames with room below the limit take their operand
unfoldable pub fill_rows : ℕ → Rowed → List Held → Shut
fill_rows l m [] = record { last = m; stack = [] }
fill_rows l m (h ∷ hs) = elim (ltb (room_in h) l) [ true ↦ fill_rows l (made h m) hs | false ↦ record { last = m; stack = h ∷ hs } ]

abbrev pub Fills : ℕ → List (List ℕ) → ℕ → List Held → List (List ℕ) → Option ℕ → List Held → Type 0
Fills limit table row stack table' row' stack' = Leaves table' row' stack' (fill_rows limit (record { rows = table; row = row }) stack)

-- an operator waits for its right operand
abbrev pub Pushes : {A : Type 0} → Binary → List (List ℕ) → ℕ → List Held → List (List ℕ) → Option A → List Held → Type 0
Pushes o table row stack table' (Some x) stack' = record { rows = table'; stack = stack' } ≡ push_rows o (record { rows = table; row = row }) stack
Pushes o table row stack table' None stack' = 64 < length (push_rows o (record { rows = table; row = row }) stack).rows

-- `)` comes, and the end comes
abbrev pub Shuts : List (List ℕ) → ℕ → List Held → List (List ℕ) → Option ℕ → List Held → Type 0
Shuts table row stack table' row' stack' = Leaves table' row' stack' (shut_rows (record { rows = table; row = row }) stack)

abbrev pub Finishes : List (List ℕ) → ℕ → List Held → List (List ℕ) → Option ℕ → Type 0
Finishes table row stack table' row' = Denotes table' row' (end_rows (record { rows = table; row = row }) stack)
