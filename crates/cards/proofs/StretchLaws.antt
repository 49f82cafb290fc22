-- Mending over whole stretches: of the first, the whole moments stay; of one after a gap, these without the first. Assumes nothing.
use Prim.Native.Nat.{ℕ, suc}
use mathlib.Core.Path.{◌≡◌, refl, sym, ap, ◌∙◌}
use mathlib.Core.Bool.{Bool, true, false, ◌&&◌, ◌||◌}
use mathlib.Core.List.{List, [], ◌∷◌, ◌++◌, map, append-nil}
use Rattle.cards.specs.Moments.{Record, flagged, whole, past_first}
use Rattle.cards.specs.Blocks.{Block, Piece}
use Rattle.cards.specs.Reading.{runs_on, start, fates, ahead, stretches}
use Rattle.cards.specs.Mending.{kept, going, from_first, to_last, mend_from, mended_blocks}
use Rattle.cards.proofs.Tests.{and_yes, and_no}
use Rattle.cards.proofs.MomentLaws.{whole_none, past_none, whole_append, whole_plain, past_append, past_plain, past_whole}
use Rattle.cards.proofs.MendLaws.{going_on, going_gap}

-- a block that runs on, and one after a gap
pub stretch_on : (next : ℕ) (b : Block) (bs : List Block) → runs_on next b ≡ true
    → stretches next (b ∷ bs) ≡ ahead b.records (stretches (suc b.number) bs)
unfolding stretches
stretch_on next b bs e = rw (e, stretches)

pub stretch_gap : (next : ℕ) (b : Block) (bs : List Block) → runs_on next b ≡ false
    → stretches next (b ∷ bs) ≡ [] ∷ ahead b.records (stretches (suc b.number) bs)
unfolding stretches
stretch_gap next b bs e = rw (e, stretches)

-- the first stretch, and the others
record First (next : ℕ) (bs : List Block) : Type 0 where
  others : List (List Record)
  all : stretches next bs ≡ going next bs ∷ others

first : (next : ℕ) (bs : List Block) → First next bs
unfolding stretches going ahead
first next [] = record { others = []; all = refl }
first next (b ∷ bs) = go (runs_on next b) refl (first (suc b.number) bs)
  where
    go : (q : Bool) → runs_on next b ≡ q → First (suc b.number) bs → First next (b ∷ bs)
    go true e f = record { others = f.others; all = stretch_on next b bs e ∙ rw (f.all, going_on next b bs e) }
    go false e f = record {
      others = ahead b.records (stretches (suc b.number) bs);
      all = stretch_gap next b bs e ∙ rw (going_gap next b bs e);
    }

-- "before a gap, and at the end, records after the last flagged one go; after a gap, records up to and including the first flagged one go"
unfoldable pub after_gap : List Record → List Record
after_gap rs = past_first (whole rs)

unfoldable pub mended_stretches : Bool → List (List Record) → List (List Record)
mended_stretches begun [] = []
mended_stretches begun (l ∷ ls) = from_first begun (whole l) ∷ map after_gap ls

past_nothing : past_first [] ≡ []
unfolding past_first
past_nothing = refl

-- one block and the rest of its stretch
block_rest : (begun : Bool) (rs later : List Record)
    → to_last (flagged later) (from_first begun rs) ++ from_first (begun || flagged rs) (whole later) ≡ from_first begun (whole (rs ++ later))
unfolding to_last from_first
block_rest true rs later = go (flagged later) refl
  where
    go : (q : Bool) → flagged later ≡ q → to_last q rs ++ whole later ≡ whole (rs ++ later)
    go true e = sym (whole_append rs later e)
    go false e = rw (whole_none later e, append-nil (whole rs)) (sym (whole_plain rs later e))
block_rest false rs later = go (flagged later) refl (flagged rs) refl
  where
    go : (q : Bool) → flagged later ≡ q → (p : Bool) → flagged rs ≡ p → to_last q (past_first rs) ++ from_first p (whole later) ≡ past_first (whole (rs ++ later))
    go true e true f = rw (whole_append rs later e, past_append rs (whole later) f)
    go true e false f = rw (whole_append rs later e, past_plain rs (whole later) f, past_none rs f)
    go false e true f = rw (whole_none later e, append-nil (whole (past_first rs)), whole_plain rs later e) (sym (past_whole rs))
    go false e false f = rw (whole_none later e, past_nothing, append-nil (whole (past_first rs)), whole_plain rs later e) (sym (past_whole rs))

-- over all blocks
nothing_stays : (begun : Bool) → from_first begun (whole []) ≡ []
unfolding from_first whole past_first
nothing_stays true = refl
nothing_stays false = refl

ahead_mended : (begun : Bool) (rs : List Record) (next : ℕ) (bs : List Block) → First next bs
    → ahead (to_last (flagged (going next bs)) (from_first begun rs)) (mended_stretches (begun || flagged rs) (stretches next bs))
    ≡ mended_stretches begun (ahead rs (stretches next bs))
unfolding ahead mended_stretches
ahead_mended begun rs next bs f = rw f.all (ap (λ (l : List Record). l ∷ map after_gap f.others) (block_rest begun rs (going next bs)))

-- after a gap each stretch is mended alike
gap_stretches : (ls : List (List Record)) → mended_stretches false ls ≡ map after_gap ls
unfolding mended_stretches after_gap from_first
gap_stretches [] = refl
gap_stretches (l ∷ ls) = refl

mended_gap : (begun : Bool) (ls : List (List Record)) → mended_stretches begun ([] ∷ ls) ≡ [] ∷ map after_gap ls
unfolding mended_stretches
mended_gap begun ls = rw (nothing_stays begun)

stretches_from : (begun : Bool) (next : ℕ) (bs : List Block) → stretches next (mend_from begun next bs) ≡ mended_stretches begun (stretches next bs)
unfolding mend_from
stretches_from begun next [] = unfold stretches mended_stretches in rw (nothing_stays begun)
stretches_from begun next (b ∷ bs) = go (runs_on next b) refl (λ q. stretches_from q (suc b.number) bs)
  where
    m : Block
    m = record {
      number = b.number;
      records = to_last (flagged (going (suc b.number) bs)) (from_first (begun && runs_on next b) b.records);
    }

    rest : List Block
    rest = mend_from ((begun && runs_on next b) || flagged b.records) (suc b.number) bs

    runs : (q : Bool) → runs_on next b ≡ q → runs_on next m ≡ q
    runs q e = unfold runs_on in e

    go : (q : Bool) → runs_on next b ≡ q
        → ((r : Bool) → stretches (suc b.number) (mend_from r (suc b.number) bs) ≡ mended_stretches r (stretches (suc b.number) bs))
        → stretches next (m ∷ rest) ≡ mended_stretches begun (stretches next (b ∷ bs))
    go true e ih =
        stretch_on next m rest (runs true e)
        ∙ rw (ih ((begun && runs_on next b) || flagged b.records), e, and_yes begun, stretch_on next b bs e)
        (ahead_mended begun b.records (suc b.number) bs (first (suc b.number) bs))
    go false e ih =
        stretch_gap next m rest (runs false e)
        ∙ rw (
          ih ((begun && runs_on next b) || flagged b.records),
          e,
          and_no begun,
          stretch_gap next b bs e,
          ahead_mended false b.records (suc b.number) bs (first (suc b.number) bs),
          gap_stretches (ahead b.records (stretches (suc b.number) bs)),
          mended_gap begun (ahead b.records (stretches (suc b.number) bs)),
        )

-- the stretches of the mended card are those of the kept blocks, mended
pub stretches_mended : (ps : List Piece) → stretches 0 (mended_blocks ps) ≡ mended_stretches true (stretches 0 (kept (fates start ps)))
unfolding mended_blocks
stretches_mended ps = stretches_from true 0 (kept (fates start ps))
