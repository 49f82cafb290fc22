-- A block that is being written: all but its check stands in the sheet. Assumes nothing.
use Rattle.std.specs.Prelude.{ℕ, ◌≡◌, List, length, take}
use Rattle.cards.specs.Moments.{Record}
use Rattle.cards.specs.Blocks.{Block, body}
use Rattle.card_writer.specs.declared.Sheet.{Sheet}

unfoldable pub block_with : ℕ → List Record → Block
block_with n rs = record { number = n; records = rs }

-- the sheet holds the block of this number and these records, but for its check
pub record Holding (sheet : Sheet) (n : ℕ) (rs : List Record) : Type 0 where
  pub size : length sheet.bytes ≡ 512
  pub count : length rs ≡ sheet.records
  pub shown : take 510 sheet.bytes ≡ body (block_with n rs)
