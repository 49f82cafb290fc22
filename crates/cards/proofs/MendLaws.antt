-- What mending puts out, over blocks: the reader finds no fault in it. Assumes nothing.
use Prim.Native.Nat.{ℕ, suc}
use mathlib.Core.Path.{◌≡◌, refl, ◌∙◌}
use mathlib.Core.Bool.{Bool, true, false, ◌&&◌, ◌||◌}
use mathlib.Core.List.{List, [], ◌∷◌, ◌++◌}
use Rattle.cards.specs.Moments.{Record, flagged, whole, open_of, past_first, unbroken}
use Rattle.cards.specs.Blocks.{Block}
use Rattle.cards.specs.Reading.{Before, start, runs_on, line, after, some, open_at_gap}
use Rattle.cards.specs.Mending.{going, from_first, to_last, mend_from}
use Rattle.cards.proofs.Tests.{and_no}
use Rattle.cards.proofs.MomentLaws.{flagged_append, whole_none, past_none, open_unflagged, open_whole, whole_append, past_plain, open_past, unbroken_whole, unbroken_past}
use Rattle.cards.proofs.FateLaws.{Chain, Fine}

-- what is open in the mended card: the open moment's records, where they stay
unfoldable carry : Bool → List Record → List Record
carry true rs = rs
carry false rs = []

-- records that may follow, and what they leave open
record Follow (rs left : List Record) : Type 0 where
  shaped : unbroken rs ≡ true
  leaves : open_of rs ≡ left

-- after a gap: the first flagged one and those before it go
past_follow : (later : Bool) (rs : List Record) → unbroken rs ≡ true → Follow (to_last later (past_first rs)) (carry (flagged rs && later) (open_of rs))
unfolding to_last carry open_of
past_follow true rs u = record { shaped = unbroken_past rs u; leaves = go (flagged rs) refl }
  where
    go : (q : Bool) → flagged rs ≡ q → open_of (past_first rs) ≡ carry (q && true) (open_of rs)
    go true e = open_past rs e
    go false e = rw (past_none rs e)
past_follow false rs u = record { shaped = unbroken_whole (past_first rs) (unbroken_past rs u); leaves = open_whole (past_first rs) ∙ go (flagged rs) }
  where
    go : (q : Bool) → [] ≡ carry (q && false) (open_of rs)
    go true = refl
    go false = refl

-- in a stretch that has begun: only those after the last flagged one go, with the open ones before them
go_on : (later : Bool) (opened rs : List Record) → unbroken (opened ++ rs) ≡ true
    → Follow (carry (flagged rs || later) opened ++ to_last later rs) (carry later (open_of (opened ++ rs)))
unfolding to_last carry open_of
go_on true opened rs u = go (flagged rs)
  where
    go : (q : Bool) → Follow (carry (q || true) opened ++ rs) (open_of (opened ++ rs))
    go true = record { shaped = u; leaves = refl }
    go false = record { shaped = u; leaves = refl }
go_on false opened rs u = go (flagged rs) refl
  where
    go : (q : Bool) → flagged rs ≡ q → Follow (carry (q || false) opened ++ whole rs) []
    go true e = rw (← whole_append opened rs e) (record { shaped = unbroken_whole (opened ++ rs) u; leaves = open_whole (opened ++ rs) })
    go false e = rw (whole_none rs e) (record { shaped = unfold unbroken Rattle.cards.specs.Moments.all_together Rattle.cards.specs.Moments.ended Rattle.cards.specs.Moments.together in refl; leaves = refl })

-- what stands before the rest of the mended card, where f stands before the blocks that stay
unfoldable mid : Bool → Before → List Block → Before
mid begun f bs = record { next = f.next; opened = carry (begun && flagged (going f.next bs)) f.opened }

-- the first mended block
unfoldable mended_first : Bool → ℕ → Block → List Block → Block
mended_first begun next b bs = record {
  number = b.number;
  records = to_last (flagged (going (suc b.number) bs)) (from_first (begun && runs_on next b) b.records);
}

-- a block's records where it runs on, and where it comes after a gap
pub line_on : (f : Before) (b : Block) → runs_on f.next b ≡ true → line f b ≡ f.opened ++ b.records
unfolding line
line_on f b e = rw (e, line)

pub line_gap : (f : Before) (b : Block) → runs_on f.next b ≡ false → line f b ≡ b.records
unfolding line
line_gap f b e = rw (e, line)

pub going_on : (next : ℕ) (b : Block) (bs : List Block) → runs_on next b ≡ true → going next (b ∷ bs) ≡ b.records ++ going (suc b.number) bs
unfolding going
going_on next b bs e = rw (e, going)

pub going_gap : (next : ℕ) (b : Block) (bs : List Block) → runs_on next b ≡ false → going next (b ∷ bs) ≡ []
unfolding going
going_gap next b bs e = rw (e, going)

-- no moment is open at a gap where there is none, or where none is open
pub on_closed : (f : Before) (b : Block) → runs_on f.next b ≡ true → open_at_gap f b ≡ false
unfolding open_at_gap
on_closed f b e = rw e (and_no (some f.opened))

none_closed : (f : Before) (b : Block) → f.opened ≡ [] → open_at_gap f b ≡ false
unfolding open_at_gap some
none_closed f b e = rw e

-- one block of the mended card: no breach in it, no open moment at a gap before it, and what it leaves open
record Moves (begun : Bool) (f : Before) (b : Block) (bs : List Block) : Type 0 where
  follow : Follow (line (mid begun f (b ∷ bs)) (mended_first begun f.next b bs))
      (carry (((begun && runs_on f.next b) || flagged b.records) && flagged (going (suc b.number) bs)) (open_of (line f b)))
  closed : open_at_gap (mid begun f (b ∷ bs)) (mended_first begun f.next b bs) ≡ false

module _ (f : Before) (b : Block) (bs : List Block) (u : unbroken (line f b) ≡ true) (plain : flagged f.opened ≡ false) where
  -- the number stays, so the mended block runs on where the block did
  runs_same : (begun : Bool) → runs_on (mid begun f (b ∷ bs)).next (mended_first begun f.next b bs) ≡ runs_on f.next b
  unfolding mid mended_first runs_on
  runs_same begun = refl

  -- a flagged record in the block, or later in the stretch
  flagged_on : runs_on f.next b ≡ true → flagged (going f.next (b ∷ bs)) ≡ (flagged b.records || flagged (going (suc b.number) bs))
  flagged_on e = rw (going_on f.next b bs e) (flagged_append b.records (going (suc b.number) bs))

  moves_on : (begun : Bool) → runs_on f.next b ≡ true → Moves begun f b bs
  unfolding mid mended_first open_at_gap from_first carry
  moves_on true e = record {
    follow = rw (line_on (mid true f (b ∷ bs)) (mended_first true f.next b bs) (runs_same true ∙ e), line_on f b e, e, flagged_on e)
        (go_on (flagged (going (suc b.number) bs)) f.opened b.records (rw (line_on f b e) at u));
    closed = on_closed (mid true f (b ∷ bs)) (mended_first true f.next b bs) (runs_same true ∙ e);
  }
  moves_on false e = record {
    follow = rw (line_on (mid false f (b ∷ bs)) (mended_first false f.next b bs) (runs_same false ∙ e), line_on f b e)
        (rw (past_plain f.opened b.records plain, flagged_append f.opened b.records, plain)
        at (past_follow (flagged (going (suc b.number) bs)) (f.opened ++ b.records) (rw (line_on f b e) at u)));
    closed = on_closed (mid false f (b ∷ bs)) (mended_first false f.next b bs) (runs_same false ∙ e);
  }

  -- before a gap nothing is open
  none_open : (begun : Bool) → runs_on f.next b ≡ false → (mid begun f (b ∷ bs)).opened ≡ []
  unfolding mid carry flagged
  none_open begun e = rw (going_gap f.next b bs e, and_no begun)

  moves_gap : (begun : Bool) → runs_on f.next b ≡ false → Moves begun f b bs
  unfolding mid mended_first from_first
  moves_gap begun e = record {
    follow = rw (line_gap (mid begun f (b ∷ bs)) (mended_first begun f.next b bs) (runs_same begun ∙ e), line_gap f b e, e, and_no begun)
        (past_follow (flagged (going (suc b.number) bs)) b.records (rw (line_gap f b e) at u));
    closed = none_closed (mid begun f (b ∷ bs)) (mended_first begun f.next b bs) (none_open begun e);
  }

  moves : (begun : Bool) → Moves begun f b bs
  moves begun = go (runs_on f.next b) refl
    where
      go : (q : Bool) → runs_on f.next b ≡ q → Moves begun f b bs
      go true e = moves_on begun e
      go false e = moves_gap begun e

-- the reader finds no fault in what mending makes of blocks that stay
mend_fine : (begun : Bool) (f : Before) (bs : List Block) → Chain f bs → flagged f.opened ≡ false → Fine (mid begun f bs) (mend_from begun f.next bs)
unfolding mend_from mended_first mid after
mend_fine begun f [] c plain = unfold going flagged carry some in rw (and_no begun)
mend_fine begun f (b ∷ bs) c plain =
    let m : Moves begun f b bs = moves f b bs c.0.shaped plain begun in (
      record { shaped = m.follow.shaped; above = c.0.above },
      m.closed,
      rw m.follow.leaves (mend_fine ((begun && runs_on f.next b) || flagged b.records) (after f b) bs c.1 (open_unflagged (line f b))),
    )

pub mended_fine : (bs : List Block) → Chain start bs → Fine start (mend_from true 0 bs)
unfolding start mid
mended_fine bs c = rw (nothing (flagged (going 0 bs))) at (mend_fine true start bs c (unfold flagged in refl))
  where
    nothing : (q : Bool) → carry q [] ≡ []
    nothing true = unfold carry in refl
    nothing false = unfold carry in refl
