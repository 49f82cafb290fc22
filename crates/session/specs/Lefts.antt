-- What each call leaves, wholly: the session, what is put out, and every lent table. Assumes nothing: these are definitions.
use Rattle.std.specs.Prelude.{ℕ, ◌+◌, ◌*◌, ◌≡◌, Bool, true, false, cond, Option, None, Some, List, ◌++◌, ltb, take, drop}
use Rattle.lines.specs.declared.Line.{Line}
use Rattle.lines.specs.declared.Line.TheVariants as line
use Rattle.meaning.specs.declared.Event.{Event}
use Rattle.meaning.specs.declared.Answer.{Answer}
use Rattle.meaning.specs.declared.Answer.TheVariants.{Started, Verdict, Refused}
use Rattle.meaning.specs.Outcome.{state_of, StartOutcome, start_outcome, EventOutcome, event_outcome}
use Rattle.answers.specs.declared.Said.{Said}
use Rattle.answers.specs.declared.Said.TheVariants as said
use Rattle.transcript.specs.Output.{event_of, values_asked}
use Rattle.session.specs.declared.Part.{Part}
use Rattle.session.specs.declared.Part.TheVariants.{First, Rows, Events, Over}
use Rattle.session.specs.declared.Session.{Session}
use Rattle.session.specs.declared.After.{After}
use Rattle.session.specs.Sessions.{machine_of}

-- the session before the first line
unfoldable pub opened_session : Session
opened_session = record { part = First; k = 0; c = 0; rows = 0; ordinal = 0; state = state_of 0 0 }

-- the run has ended
abbrev pub is_over : Part → Bool
is_over First = false
is_over Rows = false
is_over Events = false
is_over Over = true

-- the session with another part
abbrev pub turned_to : Session → Part → Session
turned_to s p = record { part = p; k = s.k; c = s.c; rows = s.rows; ordinal = s.ordinal; state = s.state }

-- a session, with or without the header, and with what is said
abbrev pub saying : Session → Bool → Option Said → After
saying s h said = record { session = s; told = record { header = h; said = said } }

-- nothing is put out
abbrev pub quiet_of : Session → After
quiet_of s = saying s false None

-- a line that does not read, by the part
unfoldable pub bad_as : Part → Session → After
bad_as First s = saying (turned_to s Over) false (Some said.Bad)
bad_as Rows s = saying (turned_to s Over) false (Some said.Bad)
bad_as Events s = saying (turned_to s Over) false (Some said.Bad)
bad_as Over s = quiet_of s

-- the sizes, by the part
unfoldable pub sizes_as : Part → Session → ℕ → ℕ → After
sizes_as First s k c = quiet_of (record { part = Rows; k = k; c = c; rows = 0; ordinal = s.ordinal; state = s.state })
sizes_as Rows s k c = bad_as Rows s
sizes_as Events s k c = bad_as Events s
sizes_as Over s k c = bad_as Over s

-- what a row leaves
pub record Rowed : Type 0 where
  pub after : After
  pub rows : List ℕ

-- a row: one more, if there are fewer than 65
unfoldable pub row_as : Part → Session → List ℕ → List ℕ → Rowed
row_as First s nine rows = record { after = bad_as First s; rows = rows }
row_as Rows s nine rows =
    cond
    (ltb 576 s.rows)
    (record { after = bad_as Rows s; rows = rows })
    (record {
      after = quiet_of (record { part = Rows; k = s.k; c = s.c; rows = s.rows + 9; ordinal = s.ordinal; state = s.state });
      rows = take s.rows rows ++ (nine ++ drop (s.rows + 9) rows);
    })
row_as Events s nine rows = record { after = bad_as Events s; rows = rows }
row_as Over s nine rows = record { after = bad_as Over s; rows = rows }

-- what a start leaves
pub record Begun : Type 0 where
  pub after : After
  pub nodes : List ℕ
  pub values : List ℕ

-- the outcome of start on the parts of the tables that the sizes ask for
unfoldable pub started : Session → List ℕ → List ℕ → List ℕ → StartOutcome
started s rows nodes values = start_outcome s.k (take s.rows rows) (take (3 * s.c) nodes) (take (values_asked s.k) values)

-- the header, or the line that says why not
unfoldable pub begun_as : Answer → Session → StartOutcome → After
begun_as (Refused number place) s o = saying (turned_to s Over) false (Some (said.NoStart number place))
begun_as Started s o =
    saying (record { part = Events; k = s.k; c = s.c; rows = s.rows; ordinal = s.ordinal; state = o.state }) true None
begun_as (Verdict holds kept room) s o =
    saying (record { part = Events; k = s.k; c = s.c; rows = s.rows; ordinal = s.ordinal; state = o.state }) true None

unfoldable pub begin_left : Session → StartOutcome → List ℕ → List ℕ → Begun
begin_left s o nodes values =
    record { after = begun_as o.answer s o; nodes = o.nodes ++ drop (3 * s.c) nodes; values = o.values ++ drop (values_asked s.k) values }

-- what is due before an event and at the end, by the part
unfoldable pub ready_as : Part → Session → List ℕ → List ℕ → List ℕ → Begun
ready_as First s rows nodes values = record { after = bad_as First s; nodes = nodes; values = values }
ready_as Rows s rows nodes values = begin_left s (started s rows nodes values) nodes values
ready_as Events s rows nodes values = record { after = quiet_of s; nodes = nodes; values = values }
ready_as Over s rows nodes values = record { after = quiet_of s; nodes = nodes; values = values }

-- what an event leaves
pub record Happened : Type 0 where
  pub after : After
  pub nodes : List ℕ
  pub values : List ℕ
  pub work : List ℕ

-- an event of a rule that has started, with the outcome of the event on the parts of the tables that the sizes ask for
unfoldable pub happen_left : Session → Bool → EventOutcome → List ℕ → List ℕ → List ℕ → Happened
happen_left s h o nodes values work =
    record {
      after = saying
          (record { part = Events; k = s.k; c = s.c; rows = s.rows; ordinal = s.ordinal + 1; state = o.left.state })
          h
          (Some (said.Event (s.ordinal + 1) o.answer));
      nodes = o.left.nodes ++ drop (3 * s.c) nodes;
      values = o.left.values ++ drop (values_asked s.k) values;
      work = o.left.work ++ drop (16 * s.c + 1024) work;
    }

unfoldable pub happened : Session → Bool → Event → List ℕ → List ℕ → List ℕ → List ℕ → Happened
happened s h e rows nodes values work = happen_left s h (event_outcome (take s.rows rows) (machine_of s nodes values work) e) nodes values work

-- an event after what was due: it is judged if the rule has started
unfoldable pub event_as : Part → Begun → Event → List ℕ → List ℕ → Happened
event_as First b e rows work = record { after = b.after; nodes = b.nodes; values = b.values; work = work }
event_as Rows b e rows work = record { after = b.after; nodes = b.nodes; values = b.values; work = work }
event_as Events b e rows work = happened b.after.session b.after.told.header e rows b.nodes b.values work
event_as Over b e rows work = record { after = b.after; nodes = b.nodes; values = b.values; work = work }

unfoldable pub event_left : Session → Event → List ℕ → List ℕ → List ℕ → List ℕ → Happened
event_left s e rows nodes values work =
    event_as (ready_as s.part s rows nodes values).after.session.part (ready_as s.part s rows nodes values) e rows work

-- what a line leaves
pub record Left : Type 0 where
  pub after : After
  pub rows : List ℕ
  pub nodes : List ℕ
  pub values : List ℕ
  pub work : List ℕ

unfoldable pub line_left : Session → Option Line → List ℕ → List ℕ → List ℕ → List ℕ → Left
line_left s (Some (line.Sizes k c)) rows nodes values work = record { after = sizes_as s.part s k c; rows = rows; nodes = nodes; values = values; work = work }
line_left s (Some (line.Row nine)) rows nodes values work =
    let r = row_as s.part s nine rows in
    record { after = r.after; rows = r.rows; nodes = nodes; values = values; work = work }
line_left s (Some (line.Event p n four)) rows nodes values work =
    let h = event_left s (event_of p n four) rows nodes values work in
    record { after = h.after; rows = rows; nodes = h.nodes; values = h.values; work = h.work }
line_left s None rows nodes values work = record { after = bad_as s.part s; rows = rows; nodes = nodes; values = values; work = work }

-- a call gave this back and left these tables
pub record Begins (b : Begun) (r : After) (nodes values : List ℕ) : Type 0 where
  pub after_is : r ≡ b.after
  pub nodes_are : nodes ≡ b.nodes
  pub values_are : values ≡ b.values

pub record Judges (h : Happened) (r : After) (nodes values work : List ℕ) : Type 0 where
  pub after_is : r ≡ h.after
  pub nodes_are : nodes ≡ h.nodes
  pub values_are : values ≡ h.values
  pub work_is : work ≡ h.work

pub record Does (l : Left) (r : After) (rows nodes values work : List ℕ) : Type 0 where
  pub after_is : r ≡ l.after
  pub rows_are : rows ≡ l.rows
  pub nodes_are : nodes ≡ l.nodes
  pub values_are : values ≡ l.values
  pub work_is : work ≡ l.work
