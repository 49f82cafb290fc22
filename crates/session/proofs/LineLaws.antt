-- What a line leaves, by its kind. Assumes nothing.
use Prim.Native.Nat.{ℕ}
use mathlib.Core.Path.{◌≡◌, refl, subst}
use mathlib.Core.List.{List}
use Rattle.std.specs.Prelude.{Option, None, Some}
use Rattle.lines.specs.declared.Line.{Line}
use Rattle.lines.specs.declared.Line.TheVariants as line
use Rattle.meaning.specs.declared.Event.{Event}
use Rattle.transcript.specs.Output.{event_of}
use Rattle.session.specs.declared.Session.{Session}
use Rattle.session.specs.declared.After.{After}
use Rattle.session.specs.Lefts.{bad_as, sizes_as, row_as, event_left, Judges, line_left, Does}

module _ (s : Session) (l : Option Line) (rows nodes values work : List ℕ) where
  pub line_sizes : {f : Line} {k c : ℕ} {r : After} → l ≡ Some f → f ≡ line.Sizes k c → r ≡ sizes_as s.part s k c
      → Does (line_left s l rows nodes values work) r rows nodes values work
  unfolding line_left
  line_sizes p q h = rw (p, q) (record { after_is = h; rows_are = refl; nodes_are = refl; values_are = refl; work_is = refl })

  pub line_row : {f : Line} {nine : List ℕ} {r : After} {rs : List ℕ} → l ≡ Some f → f ≡ line.Row nine
      → (r ≡ (row_as s.part s nine rows).after) × (rs ≡ (row_as s.part s nine rows).rows)
      → Does (line_left s l rows nodes values work) r rs nodes values work
  unfolding line_left
  line_row p q h = rw (p, q) (record { after_is = h.0; rows_are = h.1; nodes_are = refl; values_are = refl; work_is = refl })

  pub line_event : {f : Line} {p n : ℕ} {four : List ℕ} {e : Event} {r : After} {rs ns vs ws : List ℕ} → l ≡ Some f → f ≡ line.Event p n four
      → e ≡ event_of p n four → Judges (event_left s e rows nodes values work) r ns vs ws → rs ≡ rows
      → Does (line_left s l rows nodes values work) r rs ns vs ws
  unfolding line_left
  line_event {f} {p} {n} {four} {e} {r} {rs} {ns} {vs} {ws} o q g j t =
      let k : Judges (event_left s (event_of p n four) rows nodes values work) r ns vs ws =
      subst (λ (x : Event). Judges (event_left s x rows nodes values work) r ns vs ws) g j in
      rw (o, q) (record { after_is = k.after_is; rows_are = t; nodes_are = k.nodes_are; values_are = k.values_are; work_is = k.work_is })

  pub line_none : {r : After} → l ≡ None → r ≡ bad_as s.part s → Does (line_left s l rows nodes values work) r rows nodes values work
  unfolding line_left
  line_none e h = rw e (record { after_is = h; rows_are = refl; nodes_are = refl; values_are = refl; work_is = refl })
