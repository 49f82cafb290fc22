-- The open moment as a program keeps it: how many records it has, and their stamp. Assumes nothing.
use Rattle.std.specs.Prelude.{ℕ, zero, suc, Bool, true, false, ◌&&◌, ◌||◌, List, [], ◌∷◌, eqb, ltb, length}
use Rattle.cards.specs.Moments.{Record}

-- an open moment: the count of its records, and the stamp of the first (0 if there is none)
pub record Open : Type 0 where
  pub count : ℕ
  pub stamp : ℕ

unfoldable pub stamp_of : List Record → ℕ
stamp_of [] = 0
stamp_of (r ∷ rs) = r.stamp

unfoldable pub opening_of : List Record → Open
opening_of rs = record { count = length rs; stamp = stamp_of rs }

-- nothing is open
unfoldable pub closed : Open
closed = record { count = 0; stamp = 0 }

-- one record more
unfoldable pub more : ℕ → ℕ → ℕ → Open
more zero stamp new = record { count = 1; stamp = new }
more (suc n) stamp new = record { count = suc (suc n); stamp = stamp }

-- the record can belong: it is no ninth, and has the open moment's stamp
unfoldable pub belongs : Open → Record → Bool
belongs o r = eqb o.count 0 || (ltb o.count 8 && eqb r.stamp o.stamp)

-- what is open after a record
unfoldable pub next : Open → Record → Open
next o r = elim r.last [ true ↦ closed | false ↦ more o.count o.stamp r.stamp ]

-- what is open after records
unfoldable pub open_after : Open → List Record → Open
open_after o [] = o
open_after o (r ∷ rs) = open_after (next o r) rs

-- each record can belong
unfoldable pub all_belong : Open → List Record → Bool
all_belong o [] = true
all_belong o (r ∷ rs) = belongs o r && all_belong (next o r) rs

-- what runs on into a block
unfoldable pub into : Bool → Open → Open
into true o = o
into false o = closed
