-- Two outcomes of a block that keep the promise of `lines_of` are the same. Assumes nothing.
use Prim.Native.Nat.{ℕ}
use mathlib.Core.Path.{◌≡◌, sym, ◌∙◌}
use mathlib.Core.List.{List}
use Rattle.answers.proofs.PutLaws.{one_put}
use Rattle.kiosk.specs.Desks.{Desk, Fills}

-- the session, the line that is held, the tables, the slice of answers, and how many bytes are put out
pub one_block : (d : Desk) (block out : List ℕ) (e f : Desk) (a b : List ℕ) (m n : ℕ) → Fills d block out e a m → Fills d block out f b n → (e ≡ f) × (a ≡ b) × (m ≡ n)
one_block d block out e f a b m n p q =
    let put = one_put p.put q.put in
    (p.desk_is ∙ sym q.desk_is, put.0, put.1)
