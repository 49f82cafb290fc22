-- What it is to put a text into a sheet. Assumes nothing: these are definitions.
use Rattle.std.specs.Prelude.{ℕ, ◌≡◌, List, length}
use Rattle.answers.specs.Answers.{Put}
use Rattle.answers.specs.declared.Sheet.{Sheet}

-- the text was put behind what the sheet has; the slice is as long as it was
pub record Puts (s : Sheet) (text : List ℕ) (s' : Sheet) : Type 0 where
  pub put : Put s.out.now s.at text s'.out.now s'.at
  pub long : length s'.out.now ≡ length s.out.now
