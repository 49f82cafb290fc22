use Prim.Native.Nat.{◌+◌, ◌-◌, ◌*◌}
use mathlib.Core.Path.{◌≡◌, sym, ◌∙◌}
use native.Mathlib.Omega.{arith}
use Rattle.card_block.proofs.TestLaws.{tested_start, tested_not, tested_more, tested_end, block_other, block_many, block_past}
use Rattle.card_block.proofs.shape.shaped.Goals as goal
use Rattle.card_block.proofs.shape.shaped.Goals.{then-piece-ne75-via-then-piece-ne75, then-piece-ne75-via-else-piece-ne75+then-count-gt21}

pub returns-then-piece-ne75 : goal.returns-then-piece-ne75
returns-then-piece-ne75 c =
    elim c.then-piece-ne75.branch [
      | then-piece-ne75-via-then-piece-ne75 w ↦ block_other c.args.piece.now c.requires (λ i h. omega (arith, c.type_inv.piece i)) w.if-piece-ne75.true
      | then-piece-ne75-via-else-piece-ne75+then-count-gt21 w ↦
          block_many c.args.piece.now c.requires (λ i h. omega (arith, c.type_inv.piece i)) w.if-piece-ne75.false (omega (arith, w.if-count-gt21.true, c.records-count.ensures))
    ]

pub loop-i-init : goal.loop-i-init
loop-i-init c = tested_start _ _

pub returns-then-not-record_shaped : goal.returns-then-not-record_shaped
returns-then-not-record_shaped c =
    let size : 6 + 24 * c.loop-i.i + 24 - (6 + 24 * c.loop-i.i) ≡ 24 = omega arith in
    block_past c.args.piece.now c.requires (λ i h. omega (arith, c.type_inv.piece i)) _ c.records-count.result c.if-piece-ne75.false c.records-count.ensures c.if-count-gt21.false
    (tested_not c.loop-i.invariant (omega arith) c.if-count-gt21.false (sym (c.if-not-record_shaped.true) ∙ rw size at c.record_shaped.ensures))

pub loop-i-preserved : goal.loop-i-preserved
loop-i-preserved c =
    let size : 6 + 24 * c.loop-i.i + 24 - (6 + 24 * c.loop-i.i) ≡ 24 = omega arith in
    tested_more c.loop-i.invariant (omega arith) c.if-count-gt21.false (sym (c.if-not-record_shaped.false) ∙ rw size at c.record_shaped.ensures)

pub returns : goal.returns
returns c =
    block_past c.args.piece.now c.requires (λ i h. omega (arith, c.type_inv.piece i)) _ c.records-count.result c.if-piece-ne75.false c.records-count.ensures c.if-count-gt21.false
    (c.zeros.ensures ∙ tested_end c.loop-i.invariant (omega arith) c.if-count-gt21.false)
