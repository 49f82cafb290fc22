use Prim.Native.Nat.{ℕ, ◌*◌}
use mathlib.Core.Path.{refl, sym, ap, ◌∙◌}
use mathlib.Core.Bool.{true≢false}
use native.Mathlib.Omega.{arith}
use lib.ListN.{drop}
use lib.Seq.{drop-drop}
use Rattle.std.specs.Iterator.Adapters.{enumerate_count}
use Rattle.card_block.proofs.PieceEnds.{left_is}
use Rattle.card_log.proofs.FillLaws.{blocks_are, block_left, none_left, filling_part, filling_end}
use Rattle.card_log.proofs.write.Goals as goal
use Rattle.card_log.proofs.write.Goals.{then-rows-ne0-via-then-rows-ne0, then-rows-ne0-via-else-rows-ne0+then-blocks-gt4294967296, then-rows-ne0-via-else-rows-ne0+else-blocks-gt4294967296+then-not-rows_right}

pub returns-then-rows-ne0 : goal.returns-then-rows-ne0
returns-then-rows-ne0 c =
    let count = blocks_are _ _ c.div_ceil-blocks.ensures in
    record {
      wrong =
          λ r. elim c.then-rows-ne0.branch [
            | then-rows-ne0-via-then-rows-ne0 w ↦ w.if-rows-ne0.true r.whole
            | then-rows-ne0-via-else-rows-ne0+then-blocks-gt4294967296 w ↦ omega (arith, r.few, w.if-blocks-gt4294967296.true, count)
            | then-rows-ne0-via-else-rows-ne0+else-blocks-gt4294967296+then-not-rows_right w ↦ true≢false (sym r.moments ∙ sym w.rows_right.ensures ∙ w.if-not-rows_right.true)
          ];
      same_out = refl;
    }

pub returns-then-out-blocks : goal.returns-then-out-blocks
returns-then-out-blocks c =
    let count = blocks_are _ _ c.div_ceil-blocks.ensures in
    record {
      right = record { whole = c.if-rows-ne0.false; moments = sym c.rows_right.ensures ∙ c.if-not-rows_right.false; few = omega (arith, c.if-blocks-gt4294967296.false, count) };
      small = λ r. omega (arith, r, c.if-out-blocks.true, count);
      same_out = refl;
    }

pub loop-b-preserved : goal.loop-b-preserved
loop-b-preserved c =
    let s = c.in-Some.ensures.steps in
    let i = c.loop-b.invariant in
    let count = blocks_are _ _ c.div_ceil-blocks.ensures in
    let some = rw i.rest at s.0.1.2 in
    let parts = sym i.rest ∙ s.0.1.0 in
    let size = rw (i.size, i.rest) at s.0.1.1 in
    let left = block_left c.args.rows.now _ c.if-rows-ne0.false some in
    record {
      size = s.0.0 ∙ i.size;
      rest = rw s.2 (left_is 147 _ _ _ parts size ∙ drop-drop 147 (147 * enumerate_count c.loop-b.b-iterator) c.args.rows.now ∙ ap (λ (n : ℕ). drop n c.args.rows.now) (omega arith));
      filling =
          rw s.2
          (filling_part _ _ _ _ _ i.filling c.if-rows-ne0.false parts size some (omega (arith, c.if-out-blocks.false, i.filling.size, left, count)) s.1 c.block_with_rows.ensures c.copy_block.ensures);
    }

pub returns : goal.returns
returns c =
    let s = c.in-None.ensures.steps in
    let count = blocks_are _ _ c.div_ceil-blocks.ensures in
    let none = none_left _ _ (rw c.loop-b.invariant.rest at s.0.1.0) in
    rw count
    (filling_end c.loop-b.invariant.filling none
    (record { whole = c.if-rows-ne0.false; moments = sym c.rows_right.ensures ∙ c.if-not-rows_right.false; few = omega (arith, c.if-blocks-gt4294967296.false, count) })
    (omega (arith, c.if-out-blocks.false, count)))
