-- A sound session stays sound, and a line counts one event at most. Assumes nothing.
use Prim.Native.Nat.{ℕ, ◌+◌, ◌≤◌}
use native.Mathlib.Omega.{arith}
use mathlib.Core.Path.{◌≡◌, refl}
use mathlib.Core.Bool.{Bool, true, false}
use mathlib.Core.List.{List}
use Rattle.std.specs.Prelude.{Option, None, Some}
use lib.Dec.{ltb}
use lib.ListN.{length}
use borrow.Author.Tests.{ltb-false}
use Rattle.lines.specs.Format.{Reads}
use Rattle.lines.specs.declared.Line.{Line}
use Rattle.lines.specs.declared.Line.TheVariants as line
use Rattle.meaning.specs.declared.Event.{Event}
use Rattle.meaning.specs.declared.Answer.{Answer}
use Rattle.meaning.specs.declared.Answer.TheVariants.{Started, Verdict, Refused}
use Rattle.meaning.specs.Outcome.{StartOutcome}
use Rattle.session.specs.declared.Part.{Part}
use Rattle.session.specs.declared.Part.TheVariants.{First, Rows, Events, Over}
use Rattle.session.specs.declared.Session.{Session}
use Rattle.session.specs.declared.After.{After}
use Rattle.session.specs.Sessions.{Sound}
use Rattle.session.specs.Lefts.{bad_as, sizes_as, row_as, begun_as, begin_left, Begun, ready_as, happen_left, happened, event_as, event_left, line_left}

-- a line that reads has a C of at most 512, or a row's nine numbers
abbrev pub Small : Option Line → Type 0
Small (Some (line.Sizes k c)) = c ≤ 512
Small (Some (line.Row nine)) = length nine ≡ 9
Small (Some (line.Event p n four)) = Unit {0}
Small None = Unit {0}

pub reads_small : (bytes : List ℕ) (l : Option Line) → Reads bytes l → Small l
reads_small bytes (Some (line.Sizes k c)) r = r.right.1
reads_small bytes (Some (line.Row nine)) r = r.right.nine
reads_small bytes (Some (line.Event p n four)) r = tt
reads_small bytes None r = tt

-- what is no event leaves a sound session, and counts none
pub record Stays (s : Session) (r : After) : Type 0 where
  pub sound : Sound r.session
  pub same : r.session.ordinal ≡ s.ordinal

-- a line leaves a sound session, and counts one event at most
pub record Leaves (s : Session) (r : After) : Type 0 where
  pub sound : Sound r.session
  pub counted : r.session.ordinal ≤ s.ordinal + 1

bad_stays : (p : Part) (s : Session) → Sound s → Stays s (bad_as p s)
unfolding bad_as
bad_stays First s h = record { sound = record { nodes_few = h.nodes_few; rows_few = h.rows_few }; same = refl }
bad_stays Rows s h = record { sound = record { nodes_few = h.nodes_few; rows_few = h.rows_few }; same = refl }
bad_stays Events s h = record { sound = record { nodes_few = h.nodes_few; rows_few = h.rows_few }; same = refl }
bad_stays Over s h = record { sound = h; same = refl }

sizes_stays : (p : Part) (s : Session) (k c : ℕ) → Sound s → c ≤ 512 → Stays s (sizes_as p s k c)
unfolding sizes_as
sizes_stays First s k c h few = record { sound = record { nodes_few = few; rows_few = omega arith }; same = refl }
sizes_stays Rows s k c h few = bad_stays Rows s h
sizes_stays Events s k c h few = bad_stays Events s h
sizes_stays Over s k c h few = bad_stays Over s h

row_stays : (p : Part) (s : Session) (nine rows : List ℕ) → Sound s → Stays s (row_as p s nine rows).after
unfolding row_as
row_stays First s nine rows h = bad_stays First s h
row_stays Rows s nine rows h = go (ltb 576 s.rows) refl
  where
    go : (q : Bool) → ltb 576 s.rows ≡ q → Stays s (row_as Rows s nine rows).after
    go true e = rw e (bad_stays Rows s h)
    go false e = rw e (record { sound = record { nodes_few = h.nodes_few; rows_few = omega (arith, ltb-false 576 s.rows e) }; same = refl })
row_stays Events s nine rows h = bad_stays Events s h
row_stays Over s nine rows h = bad_stays Over s h

begun_stays : (a : Answer) (s : Session) (o : StartOutcome) → Sound s → Stays s (begun_as a s o)
unfolding begun_as
begun_stays Started s o h = record { sound = record { nodes_few = h.nodes_few; rows_few = h.rows_few }; same = refl }
begun_stays (Verdict holds kept room) s o h = record { sound = record { nodes_few = h.nodes_few; rows_few = h.rows_few }; same = refl }
begun_stays (Refused number place) s o h = record { sound = record { nodes_few = h.nodes_few; rows_few = h.rows_few }; same = refl }

pub ready_stays : (p : Part) (s : Session) (rows nodes values : List ℕ) → Sound s → Stays s (ready_as p s rows nodes values).after
unfolding ready_as begin_left
ready_stays First s rows nodes values h = bad_stays First s h
ready_stays Rows s rows nodes values h = begun_stays _ s _ h
ready_stays Events s rows nodes values h = record { sound = h; same = refl }
ready_stays Over s rows nodes values h = record { sound = h; same = refl }

-- what stays leaves
stays_leaves : {s : Session} {r : After} → Stays s r → Leaves s r
stays_leaves h = record { sound = h.sound; counted = omega (arith, h.same) }

event_leaves : (p : Part) (s : Session) (b : Begun) (e : Event) (rows work : List ℕ) → Stays s b.after → Leaves s (event_as p b e rows work).after
unfolding event_as happened happen_left
event_leaves First s b e rows work h = stays_leaves h
event_leaves Rows s b e rows work h = stays_leaves h
event_leaves Events s b e rows work h =
    record { sound = record { nodes_few = h.sound.nodes_few; rows_few = h.sound.rows_few }; counted = omega (arith, h.same) }
event_leaves Over s b e rows work h = stays_leaves h

pub line_leaves : (s : Session) (l : Option Line) (rows nodes values work : List ℕ) → Sound s → Small l → Leaves s (line_left s l rows nodes values work).after
unfolding line_left event_left
line_leaves s (Some (line.Sizes k c)) rows nodes values work h small = stays_leaves (sizes_stays s.part s k c h small)
line_leaves s (Some (line.Row nine)) rows nodes values work h small = stays_leaves (row_stays s.part s nine rows h)
line_leaves s (Some (line.Event p n four)) rows nodes values work h small = event_leaves _ s _ _ rows work (ready_stays s.part s rows nodes values h)
line_leaves s None rows nodes values work h small = stays_leaves (bad_stays s.part s h)
