-- Each line leaves what shows the run after it, and what is put out for it is what the definition prints. Assumes nothing.
use Prim.Native.Nat.{ℕ}
use native.Mathlib.Omega.{arith}
use mathlib.Core.Path.{◌≡◌, refl, sym, subst, ◌∙◌}
use mathlib.Core.List.{List, append-nil}
use Rattle.lines.specs.declared.Line.{Line}
use Rattle.lines.specs.declared.Line.TheVariants as line
use Rattle.meaning.specs.declared.Event.{Event}
use Rattle.meaning.specs.declared.Answer.{Answer}
use Rattle.meaning.specs.declared.Answer.TheVariants.{Started, Verdict, Refused}
use Rattle.meaning.specs.Outcome.{StartOutcome}
use Rattle.std.specs.Prelude.{Option, None, Some}
use Rattle.answers.specs.declared.Told.{Told}
use Rattle.answers.specs.Answers.{headed, said_line, told_lines}
use Rattle.transcript.specs.Output.{Stand, Reply, silent, due, judged, tell_event, event_of, tell}
use Rattle.session.specs.declared.Part.{Part}
use Rattle.session.specs.declared.Part.TheVariants.{First, Rows, Events, Over}
use Rattle.session.specs.declared.Session.{Session}
use Rattle.session.specs.Lefts.{bad_as, begun_as, begin_left, Begun, ready_as, happened, event_as, event_left, line_left}
use Rattle.session.proofs.KeepLaws.{Small}
use Rattle.kiosk.proofs.ShowLaws.{stand_as, Due, Shows, Replies, bad_shows, sizes_shows, row_shows}
use Rattle.kiosk.proofs.TurnShows.{begin_shows, happen_shows}

-- what is due, by the part
ready_by : (p : Part) (s : Session) (rows nodes values work : List ℕ) → s.part ≡ p → Shows s rows nodes values work (stand_as p s rows nodes values work) → Due p s nodes values work
    → Replies (ready_as p s rows nodes values).after rows (ready_as p s rows nodes values).nodes (ready_as p s rows nodes values).values work (due (stand_as p s rows nodes values work))
unfolding ready_as stand_as due silent Due told_lines said_line
ready_by First s rows nodes values work e g d = bad_shows s rows nodes values work g.sound g.tables First e
ready_by Rows s rows nodes values work e g d = begin_shows s rows nodes values work g.sound g.tables d
ready_by Events s rows nodes values work e g d = record { shows = g; bytes_are = refl }
ready_by Over s rows nodes values work e g d = record { shows = g; bytes_are = refl }

module _ (s : Session) (rows nodes values work : List ℕ) (st : Stand) (g : Shows s rows nodes values work st) where
  pub ready_shows : Replies (ready_as s.part s rows nodes values).after rows (ready_as s.part s rows nodes values).nodes (ready_as s.part s rows nodes values).values work (due st)
  ready_shows =
      subst (λ (x : Stand). Replies (ready_as s.part s rows nodes values).after rows (ready_as s.part s rows nodes values).nodes (ready_as s.part s rows nodes values).values work (due x)) (sym g.stand_is)
      (ready_by s.part s rows nodes values work refl (subst (λ (x : Stand). Shows s rows nodes values work x) g.stand_is g) g.rest)

-- where a rule has started, nothing is said but the header
begun_quiet : (a : Answer) (s : Session) (o : StartOutcome) → (begun_as a s o).session.part ≡ Events → (begun_as a s o).told.said ≡ None
unfolding begun_as
begun_quiet Started s o e = refl
begun_quiet (Verdict holds kept room) s o e = refl
begun_quiet (Refused number place) s o e = let z : ◌≡◌ {A = ℕ} 0 1 = cc in absurd (omega arith)

ready_quiet : (p : Part) (s : Session) (rows nodes values : List ℕ) → (ready_as p s rows nodes values).after.session.part ≡ Events
    → (ready_as p s rows nodes values).after.told.said ≡ None
unfolding ready_as bad_as begin_left
ready_quiet First s rows nodes values e = let z : ◌≡◌ {A = ℕ} 0 1 = cc in absurd (omega arith)
ready_quiet Rows s rows nodes values e = begun_quiet _ s _ e
ready_quiet Events s rows nodes values e = refl
ready_quiet Over s rows nodes values e = refl

-- a line that says nothing
quiet_line : (t : Told) → t.said ≡ None → told_lines t ≡ headed t.header
unfolding told_lines said_line
quiet_line t e = rw e (append-nil (headed t.header))

-- an event after what was due
event_by : (p : Part) (b : Begun) (e : Event) (rows work : List ℕ) (y : Reply) → b.after.session.part ≡ p → (p ≡ Events → b.after.told.said ≡ None)
    → Replies b.after rows b.nodes b.values work y
    → Replies (event_as p b e rows work).after rows (event_as p b e rows work).nodes (event_as p b e rows work).values (event_as p b e rows work).work (judged e y.bytes y.stand)
unfolding event_as judged stand_as Due
event_by First b e rows work y q n g =
    let is : y.stand ≡ stand_as First b.after.session rows b.nodes b.values work = g.shows.stand_is ∙ rw q in
    rw is (record { shows = rw is at g.shows; bytes_are = g.bytes_are })
event_by Rows b e rows work y q n g =
    let is : y.stand ≡ stand_as Rows b.after.session rows b.nodes b.values work = g.shows.stand_is ∙ rw q in
    rw is (record { shows = rw is at g.shows; bytes_are = g.bytes_are })
event_by Events b e rows work y q n g =
    let is : y.stand ≡ stand_as Events b.after.session rows b.nodes b.values work = g.shows.stand_is ∙ rw q in
    let before : y.bytes ≡ headed b.after.told.header = sym g.bytes_are ∙ quiet_line b.after.told (n refl) in
    let arrays : Due Events b.after.session b.nodes b.values work = subst (λ (p : Part). Due p b.after.session b.nodes b.values work) q g.shows.rest in
    subst (λ (z : Reply). Replies (happened b.after.session b.after.told.header e rows b.nodes b.values work).after rows (happened b.after.session b.after.told.header e rows b.nodes b.values work).nodes (happened b.after.session b.after.told.header e rows b.nodes b.values work).values (happened b.after.session b.after.told.header e rows b.nodes b.values work).work z)
    (λ i. judged e (sym before i) (sym is i))
    (happen_shows b.after.session rows b.nodes b.values work g.shows.sound g.shows.tables e arrays b.after.told.header)
event_by Over b e rows work y q n g =
    let is : y.stand ≡ stand_as Over b.after.session rows b.nodes b.values work = g.shows.stand_is ∙ rw q in
    rw is (record { shows = rw is at g.shows; bytes_are = g.bytes_are })

-- a line
module _ (s : Session) (rows nodes values work : List ℕ) (st : Stand) (g : Shows s rows nodes values work st) where
  pub event_shows : (e : Event)
      → Replies (event_left s e rows nodes values work).after rows (event_left s e rows nodes values work).nodes (event_left s e rows nodes values work).values (event_left s e rows nodes values work).work (tell_event st e)
  unfolding event_left tell_event
  event_shows e =
      event_by _ (ready_as s.part s rows nodes values) e rows work (due st) refl (ready_quiet s.part s rows nodes values) (ready_shows s rows nodes values work st g)

  pub line_shows : (l : Option Line) → Small l
      → Replies (line_left s l rows nodes values work).after (line_left s l rows nodes values work).rows (line_left s l rows nodes values work).nodes (line_left s l rows nodes values work).values (line_left s l rows nodes values work).work (tell st l)
  unfolding line_left tell
  line_shows (Some (line.Sizes k c)) small = rw g.stand_is (sizes_shows s rows nodes values work g.sound g.tables s.part k c refl g.rest small)
  line_shows (Some (line.Row nine)) small = rw g.stand_is (row_shows s rows nodes values work g.sound g.tables s.part nine small refl g.rest)
  line_shows (Some (line.Event p n four)) small = event_shows (event_of p n four)
  line_shows None small = rw g.stand_is (bad_shows s rows nodes values work g.sound g.tables s.part refl)
