-- What a call leaves of lent slices: the same loans, and a count of nodes. Assumes nothing: these are definitions.
use Rattle.std.specs.Prelude.{ℕ, ◌≡◌, Option, Some, None, length}
use Rattle.making.specs.declared.Made.{Made}
use Rattle.making.specs.declared.lent.Lent.{Lent}

-- the slices are the same two, and as long as they were
abbrev pub SameLoans : Lent → Lent → Type 0
SameLoans x y =
    (y.nodes.ghost_name ≡ x.nodes.ghost_name)
    × (y.work.ghost_name ≡ x.work.ghost_name)
    × (length y.nodes.now ≡ length x.nodes.now)
    × (length y.work.now ≡ length x.work.now)

-- a reference as an answer, with the count of nodes that was left
abbrev pub made : ℕ → Option ℕ → Option Made
made n None = None
made n (Some r) = Some (record { count = n; reference = r })
