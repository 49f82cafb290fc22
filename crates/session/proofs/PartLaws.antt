-- What is left, in the part that the code asks for by name, and in any other. Assumes nothing.
use Prim.Native.Nat.{ℕ, ◌+◌, ◌≤◌, ◌<◌}
use mathlib.Core.Path.{◌≡◌, refl, sym, ap, subst, ◌∙◌}
use mathlib.Core.Bool.{false}
use mathlib.Core.Logic.{◌⊎◌, inl, inr}
use mathlib.Core.List.{List, [], ◌∷◌, ◌++◌}
use Rattle.std.specs.Prelude.{Some}
use lib.ListN.{take, drop}
use borrow.Author.Tests.{lt-ltb, le-ltb}
use denote.Enum.Declared.{tag_of}
use types.Run.{OneOf, hit, miss}
use Rattle.meaning.specs.declared.Event.{Event}
use Rattle.answers.specs.declared.Said.TheVariants.{Bad}
use Rattle.session.specs.contracts.Part.{the_type}
use Rattle.session.specs.declared.Part.{Part}
use Rattle.session.specs.declared.Part.TheVariants.{First, Rows, Events, Over}
use Rattle.session.specs.declared.Session.{Session}
use Rattle.session.specs.declared.After.{After}
use Rattle.session.specs.Lefts.{turned_to, saying, quiet_of, bad_as, sizes_as, Rowed, row_as, Begun, started, begin_left, ready_as, Happened, happened, event_as, event_left, Begins, Judges}

-- a part that is not one of them is one of the others
pub but_first : (p : Part) → (p ≡ First → ⊥) → OneOf (1 ∷ 2 ∷ 3 ∷ []) (tag_of the_type p)
but_first First n = absurd (n refl)
but_first Rows n = hit (1 ∷ 2 ∷ 3 ∷ []) 1 tt
but_first Events n = hit (1 ∷ 2 ∷ 3 ∷ []) 2 tt
but_first Over n = hit (1 ∷ 2 ∷ 3 ∷ []) 3 tt

pub but_rows : (p : Part) → (p ≡ Rows → ⊥) → OneOf (0 ∷ 2 ∷ 3 ∷ []) (tag_of the_type p)
but_rows First n = hit (0 ∷ 2 ∷ 3 ∷ []) 0 tt
but_rows Rows n = absurd (n refl)
but_rows Events n = hit (0 ∷ 2 ∷ 3 ∷ []) 2 tt
but_rows Over n = hit (0 ∷ 2 ∷ 3 ∷ []) 3 tt

pub but_events : (p : Part) → (p ≡ Events → ⊥) → OneOf (0 ∷ 1 ∷ 3 ∷ []) (tag_of the_type p)
but_events First n = hit (0 ∷ 1 ∷ 3 ∷ []) 0 tt
but_events Rows n = hit (0 ∷ 1 ∷ 3 ∷ []) 1 tt
but_events Events n = absurd (n refl)
but_events Over n = hit (0 ∷ 1 ∷ 3 ∷ []) 3 tt

pub but_over : (p : Part) → (p ≡ Over → ⊥) → OneOf (0 ∷ 1 ∷ 2 ∷ []) (tag_of the_type p)
but_over First n = hit (0 ∷ 1 ∷ 2 ∷ []) 0 tt
but_over Rows n = hit (0 ∷ 1 ∷ 2 ∷ []) 1 tt
but_over Events n = hit (0 ∷ 1 ∷ 2 ∷ []) 2 tt
but_over Over n = absurd (n refl)

-- any part but `Over`
pub bad_other : (p : Part) (s : Session) → OneOf (0 ∷ 1 ∷ 2 ∷ []) (tag_of the_type p) → saying (turned_to s Over) false (Some Bad) ≡ bad_as p s
unfolding bad_as
bad_other First s m = refl
bad_other Rows s m = refl
bad_other Events s m = refl
bad_other Over s m = absurd (miss (0 ∷ 1 ∷ 2 ∷ []) 3 tt m)

pub bad_over : (p : Part) (s : Session) → p ≡ Over → quiet_of s ≡ bad_as p s
unfolding bad_as
bad_over p s e = rw e

-- any part but `First`
pub sizes_other : (p : Part) (s : Session) (k c : ℕ) → OneOf (1 ∷ 2 ∷ 3 ∷ []) (tag_of the_type p) → bad_as p s ≡ sizes_as p s k c
unfolding sizes_as
sizes_other First s k c m = absurd (miss (1 ∷ 2 ∷ 3 ∷ []) 0 tt m)
sizes_other Rows s k c m = refl
sizes_other Events s k c m = refl
sizes_other Over s k c m = refl

pub sizes_first : (p : Part) (s : Session) (k c : ℕ) → p ≡ First
    → quiet_of (record { part = Rows; k = k; c = c; rows = 0; ordinal = s.ordinal; state = s.state }) ≡ sizes_as p s k c
unfolding sizes_as
sizes_first p s k c e = rw e

-- any part but `Rows`
pub row_other : (p : Part) (s : Session) (nine rows : List ℕ) → OneOf (0 ∷ 2 ∷ 3 ∷ []) (tag_of the_type p)
    → ◌≡◌ {A = Rowed} (record { after = bad_as p s; rows = rows }) (row_as p s nine rows)
unfolding row_as
row_other First s nine rows m = refl
row_other Rows s nine rows m = absurd (miss (0 ∷ 2 ∷ 3 ∷ []) 1 tt m)
row_other Events s nine rows m = refl
row_other Over s nine rows m = refl

pub row_many : (p : Part) (s : Session) (nine rows : List ℕ) → p ≡ Rows → 576 < s.rows
    → ◌≡◌ {A = Rowed} (record { after = bad_as p s; rows = rows }) (row_as p s nine rows)
unfolding row_as
row_many p s nine rows e h = rw (e, lt-ltb 576 s.rows h)

pub row_full_after : (p : Part) (s : Session) (nine rows : List ℕ) → p ≡ Rows → 576 < s.rows → (row_as p s nine rows).after ≡ bad_as p s
row_full_after p s nine rows e h = sym (ap (λ (r : Rowed). r.after) (row_many p s nine rows e h))

pub row_full_rows : (p : Part) (s : Session) (nine rows : List ℕ) → p ≡ Rows → 576 < s.rows → (row_as p s nine rows).rows ≡ rows
row_full_rows p s nine rows e h = sym (ap (λ (r : Rowed). r.rows) (row_many p s nine rows e h))

pub row_more : (s : Session) (nine rows : List ℕ) → s.part ≡ Rows → s.rows ≤ 576
    → ◌≡◌ {A = Rowed} (record {
      after = quiet_of (record { part = s.part; k = s.k; c = s.c; rows = s.rows + 9; ordinal = s.ordinal; state = s.state });
      rows = take s.rows rows ++ (nine ++ drop (s.rows + 9) rows);
    }) (row_as s.part s nine rows)
unfolding row_as
row_more s nine rows e h = rw (e, le-ltb 576 s.rows h)

-- what is due, by the part
pub ready_first : (p : Part) (s : Session) (rows nodes values : List ℕ) → p ≡ First
    → ◌≡◌ {A = Begun} (record { after = bad_as p s; nodes = nodes; values = values }) (ready_as p s rows nodes values)
unfolding ready_as
ready_first p s rows nodes values e = rw e

pub ready_rows : (p : Part) (s : Session) (rows nodes values : List ℕ) → p ≡ Rows
    → begin_left s (started s rows nodes values) nodes values ≡ ready_as p s rows nodes values
unfolding ready_as
ready_rows p s rows nodes values e = rw e

pub ready_later : (p : Part) (s : Session) (rows nodes values : List ℕ) → (p ≡ Events) ⊎ (p ≡ Over)
    → ◌≡◌ {A = Begun} (record { after = quiet_of s; nodes = nodes; values = values }) (ready_as p s rows nodes values)
unfolding ready_as
ready_later p s rows nodes values (inl e) = rw e
ready_later p s rows nodes values (inr e) = rw e

-- any part but `Events`
pub event_other : (p : Part) (b : Begun) (e : Event) (rows work : List ℕ) → OneOf (0 ∷ 1 ∷ 3 ∷ []) (tag_of the_type p)
    → ◌≡◌ {A = Happened} (record { after = b.after; nodes = b.nodes; values = b.values; work = work }) (event_as p b e rows work)
unfolding event_as
event_other First b e rows work m = refl
event_other Rows b e rows work m = refl
event_other Events b e rows work m = absurd (miss (0 ∷ 1 ∷ 3 ∷ []) 2 tt m)
event_other Over b e rows work m = refl

pub event_started : (p : Part) (b : Begun) (e : Event) (rows work : List ℕ) → p ≡ Events
    → happened b.after.session b.after.told.header e rows b.nodes b.values work ≡ event_as p b e rows work
unfolding event_as
event_started p b e rows work q = rw q

-- an event, by the part that what was due leaves; that leaves the rows and the work as they were
pub event_left_other : (s : Session) (e : Event) (rows nodes values work : List ℕ) (r : After) (ns vs : List ℕ) {ws : List ℕ}
    → Begins (ready_as s.part s rows nodes values) r ns vs → ws ≡ work → OneOf (0 ∷ 1 ∷ 3 ∷ []) (tag_of the_type r.session.part)
    → Judges (event_left s e rows nodes values work) r ns vs ws
unfolding event_left
event_left_other s e rows nodes values work r ns vs b w m =
    let q = event_other (ready_as s.part s rows nodes values).after.session.part (ready_as s.part s rows nodes values) e rows work (subst (λ (a : After). OneOf (0 ∷ 1 ∷ 3 ∷ []) (tag_of the_type a.session.part)) b.after_is m) in
    record {
      after_is = b.after_is ∙ ap (λ (h : Happened). h.after) q;
      nodes_are = b.nodes_are ∙ ap (λ (h : Happened). h.nodes) q;
      values_are = b.values_are ∙ ap (λ (h : Happened). h.values) q;
      work_is = w ∙ ap (λ (h : Happened). h.work) q;
    }

pub event_left_started : (s : Session) (e : Event) (rows nodes values work : List ℕ) (r : After) (rs ns vs ws : List ℕ)
    → Begins (ready_as s.part s rows nodes values) r ns vs → (rs ≡ rows) × (ws ≡ work) → r.session.part ≡ Events
    → happened r.session r.told.header e rs ns vs ws ≡ event_left s e rows nodes values work
unfolding event_left
event_left_started s e rows nodes values work r rs ns vs ws b kept q =
    let f = b.after_is in
    let n = b.nodes_are in
    let v = b.values_are in
    let t = kept.0 in
    let w = kept.1 in
    (λ i. happened (f i).session (f i).told.header e (t i) (n i) (v i) (w i))
    ∙ event_started (ready_as s.part s rows nodes values).after.session.part (ready_as s.part s rows nodes values) e rows work
    (ap (λ (a : After). a.session.part) (sym f) ∙ q)

-- another name of what an event leaves
pub judges_same : {g h : Happened} {r : After} {ns vs ws : List ℕ} → g ≡ h → Judges g r ns vs ws → Judges h r ns vs ws
judges_same {g} {h} {r} {ns} {vs} {ws} e j = subst (λ (x : Happened). Judges x r ns vs ws) e j
