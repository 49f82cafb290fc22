-- An operator, `)` and the end, by frames that take their operand. Assumes nothing.
use Prim.Native.Nat.{ℕ, ◌<◌}
use native.Mathlib.Omega.{arith}
use mathlib.Core.Path.{◌≡◌, refl, ◌∙◌}
use mathlib.Core.Bool.{Bool, true, false, not}
use mathlib.Core.List.{List, [], ◌∷◌}
use lib.Dec.{ltb}
use lib.ListN.{length}
use Rattle.std.specs.Prelude.{Option, Some, None}
use Rattle.trees.proofs.Tests.{false_true}
use Rattle.text.specs.Words.{Binary, sinces, ands, ors, implies}
use Rattle.text.specs.Grammar.{level, right_level}
use Rattle.text.specs.Emit.{Rowed}
use Rattle.text.specs.Held.{Held, mark, applies, quantifies, joins, room_for, made, keeps, is_mark, Shut, Waiting, push_rows, shut_rows, end_rows}
use Rattle.rowing.specs.Framing.{room_in}
use Rattle.rowing.specs.declared.frames.Frame.{Frame}
use Rattle.rowing.specs.Stacking.{Pops, fill_rows, Fills, Finishes}
use Rattle.rowing.proofs.LongerLaws.{keeps_longer}
use borrow.Author.Tests.{ltb-true}

-- the frames below the last
unfoldable pub below : List Held → List Held
below [] = []
below (h ∷ hs) = hs

mark_room : (q : Held) → ltb (room_in q) 5 ≡ not (is_mark q)
unfolding room_in room_for right_level is_mark
mark_room mark = refl
mark_room (applies o t) = refl
mark_room (quantifies p v) = refl
mark_room (joins sinces r) = refl
mark_room (joins ands r) = refl
mark_room (joins ors r) = refl
mark_room (joins implies r) = refl

any_room : (q : Held) → ltb (room_in q) 10 ≡ true
unfolding room_in room_for right_level
any_room mark = refl
any_room (applies o t) = refl
any_room (quantifies p v) = refl
any_room (joins sinces r) = refl
any_room (joins ands r) = refl
any_room (joins ors r) = refl
any_room (joins implies r) = refl

abbrev pub lower : Shut → Shut
lower s = record { last = s.last; stack = below s.stack }

pub shut_is : (m : Rowed) (hs : List Held) → shut_rows m hs ≡ lower (fill_rows 5 m hs)
unfolding shut_rows fill_rows below
shut_is m [] = refl
shut_is m (q ∷ hs) = go (ltb (room_in q) 5) (is_mark q) (mark_room q) (shut_is (made q m) hs)
  where
    go : (a b : Bool) → a ≡ not b → shut_rows (made q m) hs ≡ lower (fill_rows 5 (made q m) hs)
        → ◌≡◌ {A = Shut} (elim b [ true ↦ record { last = m; stack = hs } | false ↦ shut_rows (made q m) hs ])
        (lower (elim a [ true ↦ fill_rows 5 (made q m) hs | false ↦ record { last = m; stack = q ∷ hs } ]))
    go true true e ih = absurd (false_true e refl)
    go true false e ih = ih
    go false true e ih = refl
    go false false e ih = absurd (false_true refl e)

pub end_is : (m : Rowed) (hs : List Held) → end_rows m hs ≡ (fill_rows 10 m hs).last
unfolding end_rows fill_rows
end_is m [] = refl
end_is m (q ∷ hs) = go (ltb (room_in q) 10) (any_room q) (end_is (made q m) hs)
  where
    go : (a : Bool) → a ≡ true → end_rows (made q m) hs ≡ (fill_rows 10 (made q m) hs).last
        → ◌≡◌ {A = Rowed} (end_rows (made q m) hs) (elim a as (λ _. Shut) [ true ↦ fill_rows 10 (made q m) hs | false ↦ record { last = m; stack = q ∷ hs } ]).last
    go true e ih = ih
    go false e ih = absurd (false_true refl e)

room_level : (o : Binary) (q : Held) → ltb (room_in q) (level o) ≡ ltb (room_for q) (level o)
unfolding room_in room_for level
room_level sinces mark = refl
room_level ands mark = refl
room_level ors mark = refl
room_level implies mark = refl
room_level o (applies p t) = refl
room_level o (quantifies p v) = refl
room_level o (joins p r) = refl

-- the operator waits, with the row of what it keeps
abbrev waits : Binary → Shut → Waiting
waits o s = record { rows = (keeps o s.last).rows; stack = joins o (keeps o s.last).row ∷ s.stack }

pub push_is : (o : Binary) (m : Rowed) (hs : List Held) → push_rows o m hs ≡ waits o (fill_rows (level o) m hs)
unfolding push_rows fill_rows
push_is o m [] = refl
push_is o m (q ∷ hs) = go (ltb (room_in q) (level o)) (ltb (room_for q) (level o)) (room_level o q) (push_is o (made q m) hs)
  where
    go : (a b : Bool) → a ≡ b → push_rows o (made q m) hs ≡ waits o (fill_rows (level o) (made q m) hs)
        → ◌≡◌ {A = Waiting} (elim b [ true ↦ push_rows o (made q m) hs | false ↦ record { rows = (keeps o m).rows; stack = joins o (keeps o m).row ∷ q ∷ hs } ])
        (waits o (elim a [ true ↦ fill_rows (level o) (made q m) hs | false ↦ record { last = m; stack = q ∷ hs } ]))
    go true true e ih = ih
    go true false e ih = absurd (false_true e refl)
    go false true e ih = absurd (false_true refl e)
    go false false e ih = refl

-- an operator
module _ (o : Binary) (m : Rowed) (stack : List Held) where
  pub push_first : (limit : ℕ) → limit ≡ level o → 64 < length (fill_rows limit m stack).last.rows → 64 < length (push_rows o m stack).rows
  push_first limit e h = rw (push_is o m stack, ← e) (omega (arith, keeps_longer o (fill_rows limit m stack).last))

  module _ (limit : ℕ) (e : limit ≡ level o) (left : Rowed) (stack' : List Held) (f : record { last = left; stack = stack' } ≡ fill_rows limit m stack) where
    filled : record { last = left; stack = stack' } ≡ fill_rows (level o) m stack
    filled = f ∙ rw e refl

    pub push_second : 64 < length (keeps o left).rows → 64 < length (push_rows o m stack).rows
    push_second h = rw (push_is o m stack, ← filled) h

    pub push_made : (rows : List (List ℕ)) (kept : ℕ) (q : Held) (stack'' : List Held) → record { rows = rows; row = kept } ≡ keeps o left → q ≡ joins o kept → stack'' ≡ q ∷ stack'
        → record { rows = rows; stack = stack'' } ≡ push_rows o m stack
    push_made rows kept q stack'' k j s = rw (push_is o m stack, ← filled, ← k, s, j) refl

-- `)`
module _ (m : Rowed) (stack : List Held) where
  pub shut_over : 64 < length (fill_rows 5 m stack).last.rows → 64 < length (shut_rows m stack).last.rows
  shut_over h = rw (shut_is m stack) h

  pub shut_made : (last : Rowed) (stack' : List Held) → record { last = last; stack = stack' } ≡ fill_rows 5 m stack → (stack'' : List Held) → stack'' ≡ below stack'
      → record { last = last; stack = stack'' } ≡ shut_rows m stack
  shut_made last stack' f stack'' e = rw (shut_is m stack, ← f, e) refl

  pub end_over : 64 < length (fill_rows 10 m stack).last.rows → 64 < length (end_rows m stack).rows
  end_over h = rw (end_is m stack) h

  pub end_made : (last : Rowed) (stack' : List Held) → record { last = last; stack = stack' } ≡ fill_rows 10 m stack → last ≡ end_rows m stack
  end_made last stack' f = rw (end_is m stack, ← f) refl

-- below any limit past all, a frame goes where there is one
pub pops_one : (frame : Option Frame) (stack stack' : List Held) → Pops 10 stack stack' frame → stack' ≡ below stack
unfolding below
pops_one (Some f) stack stack' p = rw p.0 refl
pops_one None [] stack' p = p.0
pops_one None (q ∷ hs) stack' p = absurd (omega (arith, p.1, ltb-true (room_in q) 10 (any_room q)))

-- the end
pub finish_all : (table : List (List ℕ)) (row : ℕ) (stack : List Held) (table' : List (List ℕ)) (row' : Option ℕ) (stack' : List Held) → Fills 10 table row stack table' row' stack'
    → Finishes table row stack table' row'
finish_all table row stack table' (Some r) stack' f = end_made (record { rows = table; row = row }) stack (record { rows = table'; row = r }) stack' f
finish_all table row stack table' None stack' f = end_over (record { rows = table; row = row }) stack f
