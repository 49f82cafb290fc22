-- Rows never go: frames, operators, `)` and the end leave as many rows as there are, or more. Assumes nothing.
use Prim.Native.Nat.{ℕ, ◌≤◌}
use native.Mathlib.Omega.{arith}
use mathlib.Core.Bool.{Bool, true, false}
use mathlib.Core.List.{List, [], ◌∷◌}
use lib.Dec.{ltb}
use lib.ListN.{length}
use Rattle.meaning.specs.Rows
use Rattle.text.specs.Words.{once, historically, previously, negation, Binary, sinces, ands, ors, implies, universal, existential}
use Rattle.text.specs.Grammar.{level}
use Rattle.text.specs.Parts.{nine}
use Rattle.text.specs.Emit.{Rowed, make_row, negated, binary_rows, applied_rows, bound_rows}
use Rattle.text.specs.Held.{Held, mark, applies, quantifies, joins, room_for, made, keeps, Waiting, push_rows, Shut, is_mark, shut_rows, end_rows}
use Rattle.rowing.specs.Framing.{room_in}
use Rattle.rowing.specs.Stacking.{fill_rows}
use Rattle.rowing.proofs.TableLaws.{make_longer}
use Rattle.rowing.proofs.FrameLaws.{negated_longer}

-- a negation of a row over a negation
notted_longer : (m : Rowed) (x : List ℕ) → length m.rows ≤ length (negated (make_row (negated m).rows x)).rows
notted_longer m x = omega (arith, negated_longer m, make_longer (negated m).rows x, negated_longer (make_row (negated m).rows x))

pub made_longer : (h : Held) (m : Rowed) → length m.rows ≤ length (made h m).rows
unfolding made applied_rows bound_rows binary_rows
made_longer mark m = omega arith
made_longer (applies once t) m = make_longer m.rows (nine (Rows.since t m.row))
made_longer (applies historically t) m = notted_longer m (nine (Rows.since t (negated m).row))
made_longer (applies previously t) m = make_longer m.rows (nine (Rows.previous m.row))
made_longer (applies negation t) m = negated_longer m
made_longer (quantifies universal v) m = notted_longer m (nine (Rows.exists v (negated m).row))
made_longer (quantifies existential v) m = make_longer m.rows (nine (Rows.exists v m.row))
made_longer (joins sinces r) m = make_longer m.rows (nine (Rows.since r m.row))
made_longer (joins ands r) m = make_longer m.rows (nine (Rows.both r m.row))
made_longer (joins ors r) m = notted_longer m (nine (Rows.both r (negated m).row))
made_longer (joins implies r) m = notted_longer m (nine (Rows.both r (negated m).row))

pub keeps_longer : (o : Binary) (m : Rowed) → length m.rows ≤ length (keeps o m).rows
unfolding keeps
keeps_longer sinces m = omega arith
keeps_longer ands m = omega arith
keeps_longer ors m = negated_longer m
keeps_longer implies m = omega (arith, negated_longer m, negated_longer (negated m))

pub push_longer : (o : Binary) (m : Rowed) (hs : List Held) → length m.rows ≤ length (push_rows o m hs).rows
unfolding push_rows
push_longer o m [] = keeps_longer o m
push_longer o m (h ∷ hs) = go (ltb (room_for h) (level o)) (push_longer o (made h m) hs)
  where
    go : (q : Bool) → length (made h m).rows ≤ length (push_rows o (made h m) hs).rows
        → length m.rows ≤ length (elim q as (λ _. Waiting) [ true ↦ push_rows o (made h m) hs | false ↦ record { rows = (keeps o m).rows; stack = joins o (keeps o m).row ∷ h ∷ hs } ]).rows
    go true ih = omega (arith, made_longer h m)
    go false ih = keeps_longer o m

pub shut_longer : (m : Rowed) (hs : List Held) → length m.rows ≤ length (shut_rows m hs).last.rows
unfolding shut_rows
shut_longer m [] = omega arith
shut_longer m (h ∷ hs) = go (is_mark h) (shut_longer (made h m) hs)
  where
    go : (q : Bool) → length (made h m).rows ≤ length (shut_rows (made h m) hs).last.rows
        → length m.rows ≤ length (elim q as (λ _. Shut) [ true ↦ record { last = m; stack = hs } | false ↦ shut_rows (made h m) hs ]).last.rows
    go true ih = omega arith
    go false ih = omega (arith, made_longer h m)

pub end_longer : (m : Rowed) (hs : List Held) → length m.rows ≤ length (end_rows m hs).rows
unfolding end_rows
end_longer m [] = omega arith
end_longer m (h ∷ hs) = omega (arith, made_longer h m, end_longer (made h m) hs)

pub fill_longer : (limit : ℕ) (m : Rowed) (hs : List Held) → length m.rows ≤ length (fill_rows limit m hs).last.rows
unfolding fill_rows
fill_longer limit m [] = omega arith
fill_longer limit m (h ∷ hs) = go (ltb (room_in h) limit) (fill_longer limit (made h m) hs)
  where
    go : (q : Bool) → length (made h m).rows ≤ length (fill_rows limit (made h m) hs).last.rows
        → length m.rows ≤ length (elim q as (λ _. Shut) [ true ↦ fill_rows limit (made h m) hs | false ↦ record { last = m; stack = h ∷ hs } ]).last.rows
    go true ih = omega (arith, made_longer h m)
    go false ih = omega arith
