-- What a block of the input leaves, wholly, byte by byte: the session, the line that is held, every table, and the bytes put out.
-- Assumes nothing: these are definitions.
use Rattle.std.specs.Prelude.{ℕ, ◌≡◌, Bool, cond, List, [], ◌∷◌, ◌++◌, eqb, ltb, take}
use Rattle.answers.specs.Answers.{Put, told_lines}
use Rattle.transcript.specs.Reading.{line_of}
use Rattle.feed.specs.Feeds.{Held, holding, hold_byte}
use Rattle.session.specs.Lefts.{Begun, ready_as, Left, line_left}
use Rattle.session.specs.declared.Session.{Session}
use Rattle.kiosk.specs.declared.blocks.Desk as code

-- all that is kept from block to block
pub record Desk : Type 0 where
  pub session : Session
  pub held : Held
  pub rows : List ℕ
  pub nodes : List ℕ
  pub values : List ℕ
  pub work : List ℕ

abbrev pub desk_of : Session → ℕ → List ℕ → List ℕ → List ℕ → List ℕ → List ℕ → Desk
desk_of s n line rows nodes values work = record { session = s; held = holding n line; rows = rows; nodes = nodes; values = values; work = work }

-- what the program's desk shows
abbrev pub shown : code.Desk → Desk
shown d = desk_of d.session d.held.count d.held.line d.tables.rows d.tables.nodes d.tables.values d.tables.work

-- the line that is held, judged
unfoldable pub judged_line : Desk → Left
judged_line d = line_left d.session (line_of (take d.held.count d.held.line)) d.rows d.nodes d.values d.work

unfoldable pub line_desk : Desk → Desk
line_desk d =
    desk_of (judged_line d).after.session 0 d.held.line (judged_line d).rows (judged_line d).nodes (judged_line d).values (judged_line d).work

unfoldable pub line_puts : Desk → List ℕ
line_puts d = told_lines (judged_line d).after.told

-- one byte: a line end has the line judged, and any other byte is held
unfoldable pub byte_desk : Desk → ℕ → Desk
byte_desk d b =
    cond
    (eqb b 10)
    (line_desk d)
    (record { session = d.session; held = hold_byte d.held b; rows = d.rows; nodes = d.nodes; values = d.values; work = d.work })

unfoldable pub byte_puts : Desk → ℕ → List ℕ
byte_puts d b = cond (eqb b 10) (line_puts d) []

-- some bytes, one after the other
unfoldable pub bytes_desk : Desk → List ℕ → Desk
bytes_desk d [] = d
bytes_desk d (b ∷ bs) = bytes_desk (byte_desk d b) bs

unfoldable pub bytes_put : Desk → List ℕ → List ℕ
bytes_put d [] = []
bytes_put d (b ∷ bs) = byte_puts d b ++ bytes_put (byte_desk d b) bs

-- the line that is held, if there is one
unfoldable pub served_desk : Bool → Desk → Desk
served_desk whole d = cond whole (line_desk d) d

unfoldable pub served_puts : Bool → Desk → List ℕ
served_puts whole d = cond whole (line_puts d) []

-- what is due at the end
unfoldable pub due_at : Desk → Begun
due_at d = ready_as d.session.part d.session d.rows d.nodes d.values

unfoldable pub due_desk : Desk → Desk
due_desk d = desk_of (due_at d).after.session 0 d.held.line d.rows (due_at d).nodes (due_at d).values d.work

-- the end of the input: a line that is held, and what is due
unfoldable pub end_desk : Desk → Desk
end_desk d = due_desk (served_desk (ltb 0 d.held.count) d)

unfoldable pub end_puts : Desk → List ℕ
end_puts d = served_puts (ltb 0 d.held.count) d ++ told_lines (due_at (served_desk (ltb 0 d.held.count) d)).after.told

-- a block; of no bytes, the end of the input
unfoldable pub block_desk : Desk → List ℕ → Desk
block_desk d [] = end_desk d
block_desk d (b ∷ bs) = bytes_desk d (b ∷ bs)

unfoldable pub block_puts : Desk → List ℕ → List ℕ
block_puts d [] = end_puts d
block_puts d (b ∷ bs) = bytes_put d (b ∷ bs)

-- a call left this desk, and put these bytes out from `at` on
pub record Gives (left : Desk) (bytes : List ℕ) (out : List ℕ) (at : ℕ) (d : Desk) (out' : List ℕ) (next : ℕ) : Type 0 where
  pub desk_is : d ≡ left
  pub put : Put out at bytes out' next

-- the line that is held was served, if there is one
abbrev pub Served : Desk → List ℕ → Desk → List ℕ → ℕ → Type 0
Served d out d' out' next = Gives (served_desk (ltb 0 d.held.count) d) (served_puts (ltb 0 d.held.count) d) out 0 d' out' next

-- the input was ended
abbrev pub Ended : Desk → List ℕ → Desk → List ℕ → ℕ → Type 0
Ended d out d' out' n = Gives (end_desk d) (end_puts d) out 0 d' out' n

-- a block left this desk, and put its bytes out from the front of the slice on
pub record Fills (d : Desk) (block out : List ℕ) (d' : Desk) (out' : List ℕ) (n : ℕ) : Type 0 where
  pub desk_is : d' ≡ block_desk d block
  pub put : Put out 0 (block_puts d block) out' n
