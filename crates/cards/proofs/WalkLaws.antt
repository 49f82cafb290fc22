-- The walk over blocks with the open moment's count and stamp alone: what a program carries from block to block. Assumes nothing.
use mathlib.Core.Path.{◌≡◌, refl, ◌∙◌}
use mathlib.Core.Bool.{Bool, true, false}
use mathlib.Core.List.{List, [], ◌∷◌}
use Rattle.cards.specs.Moments.{Record, flagged, open_of, ended, together, all_together, unbroken}
use Rattle.cards.specs.Blocks.{Block}
use Rattle.cards.specs.Reading.{Before, start, runs_on, line, after, some}
use Rattle.cards.specs.Counting.{opening_of, into, open_after, all_belong}
use Rattle.cards.proofs.Tests.{and_right}
use Rattle.cards.proofs.MomentLaws.{open_unflagged}
use Rattle.cards.proofs.CountingLaws.{none_open, no_flag, counted_open, counted_unbroken}
use Rattle.cards.proofs.MendLaws.{line_on, line_gap}

-- what stands before a piece is an open moment
pub record Opened (f : Before) : Type 0 where
  pub plain : flagged f.opened ≡ false
  pub one : together f.opened ≡ true

-- so it is at the start, and after each block that stays
pub opened_start : Opened start
unfolding start flagged together
opened_start = record { plain = refl; one = refl }

pub opened_after : (f : Before) (b : Block) → unbroken (line f b) ≡ true → Opened (after f b)
unfolding after unbroken
opened_after f b u = record { plain = open_unflagged (line f b); one = and_right (all_together (ended (line f b))) (together (open_of (line f b))) u }

nothing_together : together [] ≡ true
unfolding together
nothing_together = refl

-- the block's shape is judged by count and stamp
pub shape_counted : (f : Before) (b : Block) → Opened f → unbroken (line f b) ≡ all_belong (into (runs_on f.next b) (opening_of f.opened)) b.records
unfolding into
shape_counted f b o = go (runs_on f.next b) refl
  where
    go : (q : Bool) → runs_on f.next b ≡ q → unbroken (line f b) ≡ all_belong (into q (opening_of f.opened)) b.records
    go true e = rw (line_on f b e) (counted_unbroken f.opened b.records o.plain o.one)
    go false e = rw (line_gap f b e) (counted_unbroken [] b.records no_flag nothing_together ∙ rw none_open)

-- and they are carried on
pub open_counted : (f : Before) (b : Block) → Opened f → opening_of (after f b).opened ≡ open_after (into (runs_on f.next b) (opening_of f.opened)) b.records
unfolding into after
open_counted f b o = go (runs_on f.next b) refl
  where
    go : (q : Bool) → runs_on f.next b ≡ q → opening_of (open_of (line f b)) ≡ open_after (into q (opening_of f.opened)) b.records
    go true e = rw (line_on f b e) (counted_open f.opened b.records o.plain)
    go false e = rw (line_gap f b e) (counted_open [] b.records no_flag ∙ rw none_open)

-- a moment is open exactly if the count is not 0
pub some_counted : (rs : List Record) → some rs ≡ false → (opening_of rs).count ≡ 0
unfolding some opening_of
some_counted [] e = refl
some_counted (r ∷ rs) e = absurd (mathlib.Core.Bool.true≢false e)
