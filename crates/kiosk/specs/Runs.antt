-- A run of the program over an input that comes in blocks: calls of `lines_of`, each on what the call before left. Assumes nothing: these are
-- definitions.
use Rattle.std.specs.Prelude.{ℕ, ◌≡◌, true, List, [], ◌∷◌, ◌++◌, take, replicate}
use Rattle.session.specs.Lefts.{opened_session, is_over}
use Rattle.kiosk.specs.Desks.{Desk, desk_of, block_desk, block_puts, Fills}

-- the desk before the first block: nothing has come, and every table is 0
unfoldable pub opened_desk : Desk
opened_desk = desk_of opened_session 0 (replicate 101 0) (replicate 585 0) (replicate 1536 0) (replicate 4092 0) (replicate 9216 0)

-- the input: its blocks, one behind the other
unfoldable pub joined : List (List ℕ) → List ℕ
joined [] = []
joined (block ∷ blocks) = block ++ joined blocks

-- the calls on these blocks, from this desk on, and the bytes put out, one call's behind the other's. `ends` is the call of no bytes at the end of
-- the input; `goes` is a block of some bytes; `stops` is where the run has ended, and no block is read any more.
pub data Runs : Desk → List (List ℕ) → List ℕ → Type 0 where
  ends : (d d' : Desk) (out out' : List ℕ) (n : ℕ) → Fills d [] out d' out' n → Runs d [] (take n out')
  goes : (d d' : Desk) (b : ℕ) (bs : List ℕ) (out out' : List ℕ) (n : ℕ) (blocks : List (List ℕ)) (put : List ℕ)
      → Fills d (b ∷ bs) out d' out' n → Runs d' blocks put → Runs d ((b ∷ bs) ∷ blocks) (take n out' ++ put)
  stops : (d : Desk) (blocks : List (List ℕ)) → is_over d.session.part ≡ true → Runs d blocks []

-- the desk after some blocks
unfoldable pub after : Desk → List (List ℕ) → Desk
after d [] = d
after d (block ∷ blocks) = after (block_desk d block) blocks

-- the desk is that after some blocks, from before the first on
pub record Reached (d : Desk) : Type 0 where
  pub blocks : List (List ℕ)
  pub desk_is : d ≡ after opened_desk blocks

-- the bytes are what some block puts out at a desk that is reached
pub record Answers (put : List ℕ) : Type 0 where
  pub desk : Desk
  pub reached : Reached desk
  pub block : List ℕ
  pub are : put ≡ block_puts desk block
