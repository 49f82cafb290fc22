use Prim.Native.Nat.{◌/◌}
use mathlib.Core.Path.{◌≡◌, ap, sym, ◌∙◌}
use native.Mathlib.Omega.{arith}
use lib.ListN.{length}
use Rattle.meaning.specs.Rows.{count_of_rows, rule_of}
use Rattle.meaning.specs.Outcome.{fact_of}
use Rattle.numbers.specs.Matching.{matches_row, Sized}
use Rattle.numbers.specs.Asking.{part_of}
use Rattle.numbers.proofs.WalkLaws.{rows_none, rows_pass, rows_ask, asking_of}
use Rattle.numbers.proofs.StartLaws.{row_right_law}
use Rattle.numbers.proofs.asking.Noted.ask_fact.Goals as goal
use Rattle.numbers.proofs.asking.Noted.ask_fact.Goals.{then-matches, else-matches}

pub loop-i-init : goal.loop-i-init
loop-i-init c = rows_none c.args.parts.now.counts (part_of c.args.parts.now.m c.args.parts.now.counts c.args.parts.now.values.now) c.args.rows.now c.args.fact _ c.requires.0

pub ask_arguments-requires : goal.ask_arguments-requires
ask_arguments-requires c =
    let s : Sized c.args.fact = record { few = c.requires.3; three = omega arith } in (
      c.loop-i.invariant.steady,
      c.requires.1,
      asking_of c.args.rows.now c.loop-i.i c.args.fact (record { inside = c.loop-i-test.true; sized = s }) (row_right_law c.args.rows.now c.loop-i.i c.requires.2 c.loop-i-test.true)
          (sym (c.matches.ensures ∙ ap (matches_row (fact_of c.args.fact)) c.row_at.ensures.says) ∙ c.if-matches.true),
    )

pub loop-i-preserved : goal.loop-i-preserved
loop-i-preserved c =
    let s : Sized c.args.fact = record { few = c.requires.3; three = omega arith } in
    let part = part_of c.args.parts.now.m c.args.parts.now.counts c.args.parts.now.values.now in
    let says = sym (c.matches.ensures ∙ ap (matches_row (fact_of c.args.fact)) c.row_at.ensures.says) in
    elim c.if-matches.branch [
      | then-matches w ↦ rw w.self-is
          (rows_ask c.args.parts.now.counts part c.args.rows.now c.args.fact c.loop-i.i _ _ _ s (row_right_law c.args.rows.now c.loop-i.i c.requires.2 c.loop-i-test.true)
          (says ∙ w.if-matches.true) c.loop-i.invariant w.ask_arguments.ensures)
      | else-matches w ↦ rw w.self-is (rows_pass c.args.parts.now.counts part c.args.rows.now c.args.fact c.loop-i.i _ _ (says ∙ w.if-matches.false) c.loop-i.invariant)
    ]

pub returns : goal.returns
unfolding count_of_rows rule_of
returns c =
    let z : c.loop-i.i ≡ length c.args.rows.now / 9 = omega arith in
    rw z at c.loop-i.invariant
