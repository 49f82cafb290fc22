-- A desk shows a run in the middle of a line, and each byte leaves a desk that shows the run after it. Assumes nothing.
use Prim.Native.Nat.{ℕ, ◌≤◌, ◌<◌}
use native.Mathlib.Omega.{arith}
use mathlib.Core.Path.{◌≡◌, refl, sym, ap, ◌∙◌}
use mathlib.Core.Bool.{Bool, true, false}
use mathlib.Core.List.{List, [], ◌∷◌, ◌++◌}
use lib.Dec.{eqb}
use lib.ListN.{length, take, replicate, length-replicate}
use borrow.Author.Tests.{lt-ltb, le-ltb}
use Rattle.lines.specs.declared.Line.{Line}
use Rattle.std.specs.Prelude.{Option}
use Rattle.answers.specs.Answers.{told_lines}
use Rattle.transcript.specs.Reading.{line_of}
use Rattle.transcript.specs.Output.{opening, due, tell, told, last_line}
use Rattle.transcript.proofs.ReadingLaws.{line_reads, reads_as}
use Rattle.transcript.proofs.ByteLaws.{Going, byte_leaves, byte_prints, bytes_leave, bytes_print, end_prints_law}
use Rattle.feed.proofs.FrontLaws.{Fronts, fronts_none, fronts_more, fronts_read}
use Rattle.session.specs.Lefts.{opened_session}
use Rattle.session.proofs.KeepLaws.{Small, reads_small}
use Rattle.kiosk.specs.Desks.{Desk, judged_line, line_desk, line_puts, byte_desk, byte_puts, bytes_desk, bytes_put, served_desk, served_puts, due_at, end_puts}
use Rattle.kiosk.specs.Runs.{opened_desk}
use Rattle.kiosk.proofs.ShowLaws.{stand_as, Due, Shows, Replies}
use Rattle.kiosk.proofs.LineShows.{ready_shows, line_shows}

-- the session and the tables show where the run stands, and what is held is the front of the line that has begun
pub record Stands (d : Desk) (g : Going) : Type 0 where
  pub shows : Shows d.session d.rows d.nodes d.values d.work g.stand
  pub fronts : Fronts d.held g.begun

-- before the first byte
pub opened_stands : Stands opened_desk (record { stand = opening; begun = [] })
unfolding opened_desk opened_session stand_as Due
opened_stands =
    record {
      shows = record {
        stand_is = refl;
        sound = record { nodes_few = omega arith; rows_few = omega arith };
        tables = record {
          rows_long = length-replicate {A = ℕ} 585 0;
          nodes_long = length-replicate {A = ℕ} 1536 0;
          values_long = length-replicate {A = ℕ} 4092 0;
          work_long = length-replicate {A = ℕ} 9216 0;
        };
        rest = (refl, refl, refl, refl);
      };
      fronts = fronts_none (replicate 101 0) (length-replicate {A = ℕ} 101 0);
    }

module _ (d : Desk) (g : Going) (p : Stands d g) where
  -- the line is read by what is held of it
  same_line : line_of (take d.held.count d.held.line) ≡ line_of g.begun
  same_line =
      let l : Option Line = line_of (take d.held.count d.held.line) in
      reads_as g.begun l (fronts_read d.held g.begun l p.fronts (line_reads (take d.held.count d.held.line)))

  small_line : Small (line_of g.begun)
  small_line = reads_small g.begun (line_of g.begun) (line_reads g.begun)

  -- a line end
  judged_line_law : Replies (judged_line d).after (judged_line d).rows (judged_line d).nodes (judged_line d).values (judged_line d).work (tell g.stand (line_of g.begun))
  unfolding judged_line
  judged_line_law =
      rw same_line (line_shows d.session d.rows d.nodes d.values d.work g.stand p.shows (line_of g.begun) small_line)

  pub line_stands : Stands (line_desk d) (record { stand = (tell g.stand (line_of g.begun)).stand; begun = [] })
  unfolding line_desk
  line_stands = record { shows = judged_line_law.shows; fronts = fronts_none d.held.line p.fronts.long }

  pub line_prints : line_puts d ≡ (tell g.stand (line_of g.begun)).bytes
  unfolding line_puts
  line_prints = judged_line_law.bytes_are

  -- any byte
  byte_stands : (b : ℕ) → Stands (byte_desk d b) (byte_leaves g b) × (byte_puts d b ≡ byte_prints g b)
  unfolding byte_desk byte_leaves byte_puts byte_prints
  byte_stands b = go (eqb b 10) refl
    where
      go : (q : Bool) → eqb b 10 ≡ q → Stands (byte_desk d b) (byte_leaves g b) × (byte_puts d b ≡ byte_prints g b)
      go true e = rw e (line_stands, line_prints)
      go false e = rw e (record { shows = p.shows; fronts = fronts_more d.held g.begun b p.fronts }, refl)

  -- what is due
  due_prints : told_lines (due_at d).after.told ≡ (due g.stand).bytes
  unfolding due_at
  due_prints = (ready_shows d.session d.rows d.nodes d.values d.work g.stand p.shows).bytes_are

-- some bytes
pub bytes_stand : (d : Desk) (g : Going) (bytes : List ℕ) → Stands d g → Stands (bytes_desk d bytes) (bytes_leave g bytes) × (bytes_put d bytes ≡ bytes_print g bytes)
unfolding bytes_desk bytes_leave bytes_put bytes_print
bytes_stand d g [] p = (p, refl)
bytes_stand d g (b ∷ bs) p =
    let one = byte_stands d g p b in
    let more = bytes_stand (byte_desk d b) (byte_leaves g b) bs one.0 in
    (more.0, (λ i. one.1 i ++ more.1 i))

-- the end of the input
pub end_prints : (d : Desk) (g : Going) → Stands d g → end_puts d ≡ end_prints_law g
unfolding end_puts served_puts served_desk end_prints_law told last_line
end_prints d g p = go g.begun refl
  where
    go : (begun : List ℕ) → g.begun ≡ begun → end_puts d ≡ end_prints_law g
    go [] e =
        let none : d.held.count ≤ 0 = omega (arith, p.fronts.count_is, ap length e) in
        rw (le-ltb 0 d.held.count none) (due_prints d g p ∙ sym (ap (λ (l : List ℕ). told g.stand (last_line l)) e))
    go (b ∷ bs) e =
        let some : 0 < d.held.count = omega (arith, p.fronts.count_is, ap length e) in
        let line = line_prints d g p in
        let end = due_prints (line_desk d) (record { stand = (tell g.stand (line_of g.begun)).stand; begun = [] }) (line_stands d g p) in
        rw (lt-ltb 0 d.held.count some)
        ((λ i. line i ++ end i)
        ∙ ap (λ (l : List ℕ). (tell g.stand (line_of l)).bytes ++ (due (tell g.stand (line_of l)).stand).bytes) e
        ∙ sym (ap (λ (l : List ℕ). told g.stand (last_line l)) e))
