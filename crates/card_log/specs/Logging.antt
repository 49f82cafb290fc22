-- What `write` leaves: the card of the rows' records, each block filled before the next. Assumes nothing.
use Rattle.std.specs.Prelude.{ℕ, ◌+◌, ◌*◌, ◌/◌, ◌%◌, ◌≤◌, ◌≡◌, true, List, ◌++◌, length, drop, Result, Ok, Err}
use Rattle.cards.specs.Moments.{Record}
use Rattle.cards.specs.Counting.{closed}
use Rattle.cards.specs.Mending.{card_bytes}
use Rattle.cards.specs.Writing.{fill}
use Rattle.card_log.specs.declared.WriteError.{WriteError}
use Rattle.card_log.specs.declared.WriteError.TheVariants.{Wrong, NoRoom}
use Rattle.card_log.specs.Rows.{rows_in, right_from}

-- the count of blocks of so many records
unfoldable pub blocks_in : ℕ → ℕ
blocks_in n = (n + 20) / 21

-- the card of records, as writing says it
unfoldable pub card_of : List Record → List ℕ
card_of rs = card_bytes (fill (length rs) 0 rs)

-- whole rows, that are moments, and no more than a card holds
pub record Right (rows : List ℕ) : Type 0 where
  pub whole : length rows % 7 ≡ 0
  pub moments : right_from closed (length rows / 7) rows ≡ true
  pub few : blocks_in (length rows / 7) ≤ 4294967296

pub record Writes (rows out : List ℕ) (n : ℕ) (out₁ : List ℕ) : Type 0 where
  pub right : Right rows
  pub room : 512 * blocks_in (length rows / 7) ≤ length out
  pub put : out₁ ≡ card_of (rows_in rows) ++ drop n out
  pub count : n ≡ length (card_of (rows_in rows))

pub record Refuses (rows out out₁ : List ℕ) : Type 0 where
  pub wrong : Right rows → ⊥
  pub same_out : out₁ ≡ out

pub record Small (rows out out₁ : List ℕ) : Type 0 where
  pub right : Right rows
  pub small : 512 * blocks_in (length rows / 7) ≤ length out → ⊥
  pub same_out : out₁ ≡ out

abbrev pub WritesTo : List ℕ → List ℕ → Result ℕ WriteError → List ℕ → Type 0
WritesTo rows out (Ok n) out₁ = Writes rows out n out₁
WritesTo rows out (Err Wrong) out₁ = Refuses rows out out₁
WritesTo rows out (Err NoRoom) out₁ = Small rows out out₁
