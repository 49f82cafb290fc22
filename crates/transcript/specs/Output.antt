-- What the program prints for an input, whatever its bytes: line after line, by the format of a line and by the outcomes of start and event.
-- Nothing here knows of blocks or buffers. Assumes nothing: these are definitions.
use Rattle.std.specs.Prelude.{ℕ, ◌+◌, ◌*◌, cond, Option, None, Some, List, [], ◌∷◌, ◌++◌, eqb, ltb, leb, length, replicate, get_or}
use Rattle.meaning.specs.declared.Event.{Event}
use Rattle.meaning.specs.declared.Answer.{Answer}
use Rattle.meaning.specs.declared.Answer.TheVariants.{Started, Verdict, Refused}
use Rattle.meaning.specs.Tables.{most}
use Rattle.meaning.specs.Outcome.{work_size, StartOutcome, start_outcome, Machine, machine_of, event_outcome}
use Rattle.lines.specs.declared.Line.{Line}
use Rattle.lines.specs.declared.Line.TheVariants as line
use Rattle.answers.specs.Answers.{header, bad_line, no_start, answer_line}
use Rattle.transcript.specs.Reading.{line_of}

-- where a run stands: at its first line; with k, C and the numbers of the rows so far; with a rule that has started, the count of events so far and
-- the machine; past its last line
pub data Stand : Type 0 where
  opening : Stand
  ruling : ℕ → ℕ → List ℕ → Stand
  judging : List ℕ → ℕ → Machine → Stand
  ended : Stand

-- where a line leaves the run, and what is printed for it
pub record Reply : Type 0 where
  pub stand : Stand
  pub bytes : List ℕ

-- nothing is printed
unfoldable pub silent : Stand → Reply
silent st = record { stand = st; bytes = [] }

-- "A line that doesn't read as one of these ends the run with `bad line`"; nothing is said of the lines after the last
unfoldable pub tell_bad : Stand → Reply
tell_bad opening = record { stand = ended; bytes = bad_line }
tell_bad (ruling k C rows) = record { stand = ended; bytes = bad_line }
tell_bad (judging rows n m) = record { stand = ended; bytes = bad_line }
tell_bad ended = silent ended

-- "a first line of two numbers, k and C"
unfoldable pub tell_sizes : Stand → ℕ → ℕ → Reply
tell_sizes opening k C = silent (ruling k C [])
tell_sizes (ruling k' C' rows) k C = tell_bad (ruling k' C' rows)
tell_sizes (judging rows n m) k C = tell_bad (judging rows n m)
tell_sizes ended k C = tell_bad ended

-- "then up to 65 lines of `r` and nine numbers"
unfoldable pub tell_row : Stand → List ℕ → Reply
tell_row opening nine = tell_bad opening
tell_row (ruling k C rows) nine = cond (leb (length (rows ++ nine)) (65 * 9)) (silent (ruling k C (rows ++ nine))) (tell_bad (ruling k C rows))
tell_row (judging rows n m) nine = tell_bad (judging rows n m)
tell_row ended nine = tell_bad ended

-- "If start is refused it prints `no start`, the number and the place, and ends. Else header". A start is not answered by a verdict.
unfoldable pub start_reply : ℕ → List ℕ → StartOutcome → Answer → Reply
start_reply C rows o (Refused number place) = record { stand = ended; bytes = no_start number place }
start_reply C rows o Started = record { stand = judging rows 0 (machine_of o (replicate (work_size C) 0)); bytes = header }
start_reply C rows o (Verdict holds kept room) = record { stand = judging rows 0 (machine_of o (replicate (work_size C) 0)); bytes = header }

-- the length of the value slice, "4 × (2^k − 1)"; a k past 10 is refused before the slice is looked at
unfoldable pub values_asked : ℕ → ℕ
values_asked k = cond (ltb 10 k) 0 (4 * most k)

-- start, on slices of the lengths that k and C ask for
unfoldable pub begins : ℕ → ℕ → List ℕ → StartOutcome
begins k C rows = start_outcome k rows (replicate (3 * C) 0) (replicate (values_asked k) 0)

-- "Start comes at the first `e` line, or at the end if there is none."; ".. and so does a missing first line"
unfoldable pub due : Stand → Reply
due opening = tell_bad opening
due (ruling k C rows) = start_reply C rows (begins k C rows) (begins k C rows).answer
due (judging rows n m) = silent (judging rows n m)
due ended = silent ended

-- "then per `e` line: its ordinal, verdict, kept, room; or ordinal, `refused`, number, place", behind what was printed before it
unfoldable pub judged : Event → List ℕ → Stand → Reply
judged e before (judging rows n m) =
    record {
      stand = judging rows (n + 1) (event_outcome rows m e).left;
      bytes = before ++ answer_line (n + 1) (event_outcome rows m e).answer;
    }
judged e before opening = record { stand = opening; bytes = before }
judged e before (ruling k C rows) = record { stand = ruling k C rows; bytes = before }
judged e before ended = record { stand = ended; bytes = before }

unfoldable pub tell_event : Stand → Event → Reply
tell_event st e = judged e (due st).bytes (due st).stand

-- the event of a line is one fact, which stands at all eight places; its fourth value only makes the count 4, which is refused
unfoldable pub event_of : ℕ → ℕ → List ℕ → Event
event_of p n values =
    record {
      count = 1;
      facts = replicate 8
          (record { predicate = p; count = n; values = record { 0 = get_or values 0 0 } ∷ record { 0 = get_or values 1 0 } ∷ record { 0 = get_or values 2 0 } ∷ [] });
    }

-- one line, or what reads as none
unfoldable pub tell : Stand → Option Line → Reply
tell st (Some (line.Sizes k C)) = tell_sizes st k C
tell st (Some (line.Row nine)) = tell_row st nine
tell st (Some (line.Event p n values)) = tell_event st (event_of p n values)
tell st None = tell_bad st

-- the lines, one after the other, and the end
unfoldable pub told : Stand → List (List ℕ) → List ℕ
told st [] = (due st).bytes
told st (l ∷ ls) = (tell st (line_of l)).bytes ++ told (tell st (line_of l)).stand ls

-- the last line, if there are bytes past the last line end: "the last line end optional"
unfoldable pub last_line : List ℕ → List (List ℕ)
last_line [] = []
last_line (b ∷ bs) = (b ∷ bs) ∷ []

-- the lines of bytes that come after those of `before` on the same line: a line ends at byte 10
unfoldable pub lines_from : List ℕ → List ℕ → List (List ℕ)
lines_from before [] = last_line before
lines_from before (b ∷ bs) = cond (eqb b 10) (before ∷ lines_from [] bs) (lines_from (before ++ (b ∷ [])) bs)

-- what the program prints for an input
unfoldable pub output : List ℕ → List ℕ
output input = told opening (lines_from [] input)
