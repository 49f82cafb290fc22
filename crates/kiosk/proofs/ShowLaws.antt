-- What a session and its tables show of a run, and that each call leaves what shows the run after it. Assumes nothing.
use Prim.Native.Nat.{ℕ, ◌+◌, ◌*◌, ◌≤◌, ◌<◌}
use native.Mathlib.Omega.{arith}
use mathlib.Core.Path.{◌≡◌, refl, sym, ap, ◌∙◌}
use mathlib.Core.Bool.{Bool, true, false}
use mathlib.Core.List.{List, ◌++◌, append_assoc}
use lib.Dec.{ltb}
use lib.ListN.{length, take, drop, replicate, length-append, length-drop}
use lib.Seq.{length-take-le, take_at}
use borrow.Author.Tests.{ltb-true, ltb-false, le-leb, lt-leb}
use Rattle.answers.specs.Answers.{said_line, told_lines}
use Rattle.transcript.specs.Output.{Stand, opening, ruling, judging, ended, Reply, silent, tell_bad, tell_sizes, tell_row}
use Rattle.session.specs.declared.Part.{Part}
use Rattle.session.specs.declared.Part.TheVariants.{First, Rows, Events, Over}
use Rattle.session.specs.declared.Session.{Session}
use Rattle.session.specs.declared.After.{After}
use Rattle.session.specs.Sessions as session
use Rattle.session.specs.Sessions.{Sound, Long}
use Rattle.session.specs.Lefts.{turned_to, bad_as, sizes_as, row_as}

-- the stand of a session and its tables, by the part
unfoldable pub stand_as : Part → Session → List ℕ → List ℕ → List ℕ → List ℕ → Stand
stand_as First s rows nodes values work = opening
stand_as Rows s rows nodes values work = ruling s.k s.c (take s.rows rows)
stand_as Events s rows nodes values work = judging (take s.rows rows) s.ordinal (session.machine_of s nodes values work)
stand_as Over s rows nodes values work = ended

-- before the start no event has come and nothing is written; after it the state has its arrays
unfoldable pub Due : Part → Session → List ℕ → List ℕ → List ℕ → Type 0
Due First s nodes values work = (s.ordinal ≡ 0) × (nodes ≡ replicate 1536 0) × (values ≡ replicate 4092 0) × (work ≡ replicate 9216 0)
Due Rows s nodes values work = (s.ordinal ≡ 0) × (nodes ≡ replicate 1536 0) × (values ≡ replicate 4092 0) × (work ≡ replicate 9216 0)
Due Events s nodes values work = (length s.state.counts ≡ 4) × (length s.state.refs ≡ 64) × (length s.state.sizes ≡ 64)
Due Over s nodes values work = Unit {0}

-- a session and its tables show a stand
pub record Shows (s : Session) (rows nodes values work : List ℕ) (st : Stand) : Type 0 where
  pub stand_is : st ≡ stand_as s.part s rows nodes values work
  pub sound : Sound s
  pub tables : Long rows nodes values work
  pub rest : Due s.part s nodes values work

-- what is left shows the stand of the reply, and what is told is the reply's bytes
pub record Replies (r : After) (rows nodes values work : List ℕ) (y : Reply) : Type 0 where
  pub shows : Shows r.session rows nodes values work y.stand
  pub bytes_are : told_lines r.told ≡ y.bytes

-- a run that has ended
over_shows : (s : Session) (rows nodes values work : List ℕ) → s.part ≡ Over → Sound s → Long rows nodes values work → Shows s rows nodes values work ended
unfolding stand_as Due
over_shows s rows nodes values work e h t = record { stand_is = rw e; sound = h; tables = t; rest = rw e tt }

module _ (s : Session) (rows nodes values work : List ℕ) (h : Sound s) (t : Long rows nodes values work) where
  pub turned_over : Shows (turned_to s Over) rows nodes values work ended
  turned_over = over_shows (turned_to s Over) rows nodes values work refl (record { nodes_few = h.nodes_few; rows_few = h.rows_few }) t

  -- a line that does not read
  pub bad_shows : (p : Part) → s.part ≡ p → Replies (bad_as p s) rows nodes values work (tell_bad (stand_as p s rows nodes values work))
  unfolding bad_as stand_as tell_bad silent told_lines said_line
  bad_shows First e = record { shows = turned_over; bytes_are = refl }
  bad_shows Rows e = record { shows = turned_over; bytes_are = refl }
  bad_shows Events e = record { shows = turned_over; bytes_are = refl }
  bad_shows Over e = record { shows = over_shows s rows nodes values work e h t; bytes_are = refl }

  -- the sizes
  pub sizes_shows : (p : Part) (k c : ℕ) → s.part ≡ p → Due p s nodes values work → c ≤ 512
      → Replies (sizes_as p s k c) rows nodes values work (tell_sizes (stand_as p s rows nodes values work) k c)
  unfolding sizes_as stand_as tell_sizes silent told_lines said_line Due
  sizes_shows First k c e d few =
      record {
        shows = record { stand_is = refl; sound = record { nodes_few = few; rows_few = omega arith }; tables = t; rest = d };
        bytes_are = refl;
      }
  sizes_shows Rows k c e d few = bad_shows Rows e
  sizes_shows Events k c e d few = bad_shows Events e
  sizes_shows Over k c e d few = bad_shows Over e

  -- a row
  pub row_shows : (p : Part) (nine : List ℕ) → length nine ≡ 9 → s.part ≡ p → Due p s nodes values work
      → Replies (row_as p s nine rows).after (row_as p s nine rows).rows nodes values work (tell_row (stand_as p s rows nodes values work) nine)
  unfolding row_as stand_as tell_row silent told_lines said_line Due
  row_shows First nine l e d = bad_shows First e
  row_shows Rows nine l e d = go (ltb 576 s.rows) refl
    where
      front : length (take s.rows rows) ≡ s.rows
      front = length-take-le s.rows rows (omega (arith, h.rows_few, t.rows_long))

      longer : length (take s.rows rows ++ nine) ≡ s.rows + 9
      longer = omega (arith, length-append (take s.rows rows) nine, front, l)

      go : (q : Bool) → ltb 576 s.rows ≡ q
          → Replies (row_as Rows s nine rows).after (row_as Rows s nine rows).rows nodes values work (tell_row (stand_as Rows s rows nodes values work) nine)
      go true q =
          let many : 576 < s.rows = ltb-true 576 s.rows q in
          rw (q, lt-leb (length (take s.rows rows ++ nine)) (65 * 9) (omega (arith, longer))) (bad_shows Rows e)
      go false q =
          let few : s.rows ≤ 576 = ltb-false 576 s.rows q in
          let there : take (s.rows + 9) (take s.rows rows ++ (nine ++ drop (s.rows + 9) rows)) ≡ take s.rows rows ++ nine =
          ap (take (s.rows + 9)) (sym (append_assoc (take s.rows rows) nine (drop (s.rows + 9) rows)))
          ∙ take_at (take s.rows rows ++ nine) (drop (s.rows + 9) rows) (s.rows + 9) longer in
          let long : length (take s.rows rows ++ (nine ++ drop (s.rows + 9) rows)) ≡ 585 =
          omega (arith, length-append (take s.rows rows) (nine ++ drop (s.rows + 9) rows), length-append nine (drop (s.rows + 9) rows), length-drop (s.rows + 9) rows, front, l, t.rows_long) in
          rw (q, le-leb (length (take s.rows rows ++ nine)) (65 * 9) (omega (arith, longer)))
          (record {
            shows = record {
              stand_is = ap (ruling s.k s.c) (sym there);
              sound = record { nodes_few = h.nodes_few; rows_few = omega arith };
              tables = record { rows_long = long; nodes_long = t.nodes_long; values_long = t.values_long; work_long = t.work_long };
              rest = d;
            };
            bytes_are = refl;
          })
  row_shows Events nine l e d = bad_shows Events e
  row_shows Over nine l e d = bad_shows Over e
