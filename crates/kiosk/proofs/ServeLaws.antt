-- A line that is held, judged and put out; and the end of the input. Assumes nothing.
use Prim.Native.Nat.{ℕ, ◌<◌}
use native.Mathlib.Omega.{arith}
use mathlib.Core.Path.{◌≡◌, refl, sym, ap, subst, ◌∙◌}
use mathlib.Core.List.{List}
use lib.Dec.{ltb}
use borrow.Author.Tests.{lt-ltb, le-ltb}
use Rattle.std.specs.Prelude.{Option}
use Rattle.feed.specs.Feeds.{Held, holding}
use lib.ListN.{take}
use Rattle.lines.specs.declared.Line.{Line}
use Rattle.lines.specs.Format.{Reads}
use Rattle.answers.specs.Answers.{Put, told_lines}
use Rattle.answers.proofs.PutLaws.{put_none, put_both}
use Rattle.transcript.specs.Reading.{line_of}
use Rattle.transcript.proofs.ReadingLaws.{reads_as}
use Rattle.session.specs.Lefts.{opened_session, Begun, ready_as, Begins, line_left, Does}
use Rattle.session.specs.Sessions.{Sound}
use Rattle.session.specs.declared.Session.{Session}
use Rattle.session.specs.declared.After.{After}
use Rattle.kiosk.specs.Desks.{Desk, judged_line, line_desk, line_puts, served_desk, served_puts, due_at, due_desk, end_desk, end_puts, Gives}

-- no byte of a line is held
pub serve_none : (d : Desk) {out : List ℕ} → d.held.count ≡ 0 → Gives (served_desk (ltb 0 d.held.count) d) (served_puts (ltb 0 d.held.count) d) out 0 d out 0
unfolding served_desk served_puts
serve_none d e = rw (le-ltb 0 d.held.count (omega arith)) (record { desk_is = refl; put = put_none (omega arith) })

-- some bytes are
pub serve_some : (d : Desk) {out : List ℕ} {d' : Desk} {out' : List ℕ} {next : ℕ} → 0 < d.held.count
    → Gives (line_desk d) (line_puts d) out 0 d' out' next
    → Gives (served_desk (ltb 0 d.held.count) d) (served_puts (ltb 0 d.held.count) d) out 0 d' out' next
unfolding served_desk served_puts
serve_some d h g = rw (lt-ltb 0 d.held.count h) g

-- a line
pub serve_one : (d : Desk) (found : Option Line) {r : After} {h : Held} {rs ns vs ws : List ℕ} {out : List ℕ} {at : ℕ} {out' : List ℕ} {next : ℕ}
    → Reads (take d.held.count d.held.line) found → Does (line_left d.session found d.rows d.nodes d.values d.work) r rs ns vs ws
    → h ≡ holding 0 d.held.line → Put out at (told_lines r.told) out' next
    → Gives (line_desk d) (line_puts d) out at
    (record { session = r.session; held = h; rows = rs; nodes = ns; values = vs; work = ws }) out' next
unfolding line_desk line_puts judged_line
serve_one d found {r} {h} {rs} {ns} {vs} {ws} {out} {at} {out'} {next} reads does clear put =
    let l = reads_as (take d.held.count d.held.line) found reads in
    let t : Does (line_left d.session (line_of (take d.held.count d.held.line)) d.rows d.nodes d.values d.work) r rs ns vs ws =
    subst (λ (x : Option Line). Does (line_left d.session x d.rows d.nodes d.values d.work) r rs ns vs ws) l does in
    let a = t.after_is in
    let b = t.rows_are in
    let c = t.nodes_are in
    let v = t.values_are in
    let w = t.work_is in
    record {
      desk_is = λ i. record { session = (a i).session; held = clear i; rows = b i; nodes = c i; values = v i; work = w i };
      put = subst (λ (x : After). Put out at (told_lines x.told) out' next) a put;
    }

-- what is due at the end, behind the last line
pub serve_end : (d d' : Desk) {out mid : List ℕ} {at : ℕ} {r : After} {h : Held} {rs ns vs ws : List ℕ} {out' : List ℕ} {next : ℕ}
    → Gives (served_desk (ltb 0 d.held.count) d) (served_puts (ltb 0 d.held.count) d) out 0 d' mid at
    → Begins (ready_as d'.session.part d'.session d'.rows d'.nodes d'.values) r ns vs → (rs ≡ d'.rows) × (ws ≡ d'.work)
    → h ≡ holding 0 d'.held.line → Put mid at (told_lines r.told) out' next
    → Gives (end_desk d) (end_puts d) out 0 (record { session = r.session; held = h; rows = rs; nodes = ns; values = vs; work = ws }) out' next
unfolding end_desk end_puts due_desk due_at
serve_end d d' {out} {mid} {at} {r} {h} {rs} {ns} {vs} {ws} {out'} {next} g b kept clear put =
    let e = g.desk_is in
    let due : Desk → Begun = λ (x : Desk). ready_as x.session.part x.session x.rows x.nodes x.values in
    let a = b.after_is ∙ ap (λ (x : Desk). (due x).after) e in
    let n = b.nodes_are ∙ ap (λ (x : Desk). (due x).nodes) e in
    let v = b.values_are ∙ ap (λ (x : Desk). (due x).values) e in
    let c = clear ∙ ap (λ (x : Desk). holding 0 x.held.line) e in
    let t = kept.0 ∙ ap (λ (x : Desk). x.rows) e in
    let w = kept.1 ∙ ap (λ (x : Desk). x.work) e in
    record {
      desk_is = λ i. record { session = (a i).session; held = c i; rows = t i; nodes = n i; values = v i; work = w i };
      put = put_both g.put (subst (λ (x : After). Put mid at (told_lines x.told) out' next) a put);
    }

-- the session before the first line
pub opened_sound : {s : Session} → s ≡ opened_session → Sound s × (s.ordinal ≡ 0)
opened_sound {s} e = subst (λ (x : Session). Sound x × (x.ordinal ≡ 0)) (sym e) opened
  where
    opened : Sound opened_session × (opened_session.ordinal ≡ 0)
    opened = unfold opened_session in (record { nodes_few = omega arith; rows_few = omega arith }, refl)
