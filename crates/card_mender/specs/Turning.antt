-- Mending under way: what is put and listed so far, with what the pieces to come give, is the whole. What one turn keeps. Assumes nothing.
use Rattle.std.specs.Prelude.{ℕ, ◌+◌, ◌-◌, ◌*◌, ◌≤◌, ◌<◌, min, ◌≡◌, Bool, List, ◌++◌, length, take, drop}
use Rattle.std.proofs.lemmas.List.Edits.{sets}
use Rattle.cards.specs.Blocks.{Piece, pieces, block_of, block_bytes}
use Rattle.cards.specs.Reading.{Before, fates}
use Rattle.cards.specs.Mending.{kept, mend_from, card_bytes, mended, Listed, listing}
use Rattle.cards.specs.Mending as Mending
use Rattle.card_block.specs.Shapes.{records_from}
use Rattle.card_block.specs.Judging.{Carries}
use Rattle.card_writer.specs.Sheets.{block_with}
use Rattle.card_mender.specs.declared.Held.{Held}
use Rattle.card_mender.specs.declared.State.{State}
use Rattle.card_mender.specs.Weighing.{stay_to}
use Rattle.card_mender.specs.Lines.{lines_of}

-- what the pieces to come give: the bytes of their mended blocks, and their lines
unfoldable pub bytes_to_come : Bool → Before → List Piece → List ℕ
bytes_to_come begun f ps = card_bytes (mend_from begun f.next (kept (fates f ps)))

unfoldable pub lines_to_come : Bool → Before → List Piece → List Listed
lines_to_come begun f ps = listing (fates f ps) (mend_from begun f.next (kept (fates f ps)))

-- mending under way, with the bytes of the card that are still to come
pub record Going (card out₀ list₀ : List ℕ) (s : State) (left : List ℕ) (place : ℕ) (out list : List ℕ) : Type 0 where
  pub before : Before
  pub carries : Carries before s.carried
  pub here : length left ≡ length card - 512 * place
  pub behind : s.put + length left ≤ length card
  pub out_size : length out ≡ length out₀
  pub list_size : length list ≡ length list₀
  pub puts : take s.put out ++ bytes_to_come s.begun before (pieces left) ≡ mended card
  pub tail : drop s.put out ≡ drop s.put out₀
  pub lines : take (2 * place) list ++ lines_of (lines_to_come s.begun before (pieces left)) ≡ lines_of (Mending.list card)
  pub rest : drop (2 * place) list ≡ drop (2 * place) list₀

-- a piece can be turned: something is carried to it, it is the next one, with the rest behind it, and there is room
pub record Ready (piece rest : List ℕ) (place : ℕ) (s : State) (out list : List ℕ) : Type 0 where
  pub before : Before
  pub carries : Carries before s.carried
  pub some : 0 < length piece
  pub size : length piece ≡ min 512 (length piece + length rest)
  pub bytes : s.put + length piece ≤ length out
  pub lines : 2 * place + 2 ≤ length list

-- one turn goes on
pub record Turns (piece rest : List ℕ) (place : ℕ) (s : State) (out list : List ℕ) (r : State) (out₁ list₁ : List ℕ) : Type 0 where
  pub on : (card out₀ list₀ : List ℕ) → Going card out₀ list₀ s (piece ++ rest) place out list → Going card out₀ list₀ r rest (place + 1) out₁ list₁

-- the piece is a whole block, of which these records may stay
pub record Whole (piece : List ℕ) (h : Held) : Type 0 where
  pub before : Before
  pub carries : Carries before h.carried
  pub whole : length piece ≡ 512
  pub order : h.«from» ≤ h.last
  pub most : h.last ≤ h.records
  pub few : h.records ≤ 21

-- the block is put with the records that stay in it
pub record PutHeld (later : Bool) (piece : List ℕ) (h : Held) (put : ℕ) (out out₁ : List ℕ) (to : ℕ) : Type 0 where
  pub to_is : to ≡ stay_to later h
  pub puts : out₁ ≡ sets out put (block_bytes (block_with (block_of piece).number (records_from (to - h.«from») (drop (6 + 24 * h.«from») piece))))
