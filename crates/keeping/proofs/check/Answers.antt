-- `check` meets its contract: one clause of well kept diagrams for each pass. Assumes nothing.
use Prim.Native.Nat.{◌/◌, ◌≤◌}
use native.Mathlib.Omega.{arith}
use mathlib.Core.Path.{refl, sym, ◌∙◌}
use lib.ListN.{length}
use Rattle.keeping.proofs.RowLaws.{zero_behind, behind_zero, inside_rows, rows_inside, rows_table, rows_rows, free_rows}
use Rattle.keeping.proofs.VerdictLaws.{Passed, passed_table, passed_rows, kept_right, kept_order, refused, verdict}
use Rattle.nodes.proofs.ChainLaws.{chained_same}
use Rattle.keeping.proofs.check.Goals as goal
use Rattle.keeping.proofs.check.Goals.{Start, Else-not-all_differ}

-- there are as many references as rows, or more
long : (c : Start) → c.args.count ≤ length c.args.refs.now
long c = omega (arith, c.requires.le_k.2, c.requires.le_k.3)

-- what the passes before the order have shown
passed : (c : Else-not-all_differ) → Passed c.args.k (length c.args.nodes.now / 3) c.args.count c.args.refs.now c.args.kept c.args.nodes.now
passed c = record {
  fits = omega arith;
  inside = inside_rows _ _ _ (long (goal.at.Else-not-all_differ c).Start) c.split_at.ensures.front c.args.kept c.if-not-inside.ensures;
  none = zero_behind _ _ (rw c.split_at.ensures.back at c.if-not-all_zero.ensures);
  rest = zero_behind _ _ (rw c.split_at-2.ensures.back at c.if-not-all_zero-2.ensures);
  right = c.if-not-all_right.ensures;
  apart = c.if-not-all_differ.ensures.decides;
}

pub returns-then-nodes-m-clause-value : goal.returns-then-nodes-m-clause-value
returns-then-nodes-m-clause-value c = refused _ _ _ _ _ _ _ (λ w. omega (arith, w.fits, c.if-nodes-m.true))

pub returns-then-not-inside-clause-value : goal.returns-then-not-inside-clause-value
returns-then-not-inside-clause-value c =
    refused _ _ _ _ _ _ _ (λ w. c.if-not-inside.ensures (rows_inside _ _ _ (long (goal.at.returns-then-not-inside-clause-value c).Start) c.split_at.ensures.front c.args.kept w.inside))

pub returns-then-not-all_zero-clause-value : goal.returns-then-not-all_zero-clause-value
returns-then-not-all_zero-clause-value c =
    refused _ _ _ _ _ _ _ (λ w. c.if-not-all_zero.ensures (rw c.split_at.ensures.back (behind_zero _ _ w.none)))

pub returns-then-not-all_zero-2-clause-value : goal.returns-then-not-all_zero-2-clause-value
returns-then-not-all_zero-2-clause-value c = refused _ _ _ _ _ _ _ (λ w. c.if-not-all_zero-2.ensures (rw c.split_at-2.ensures.back (behind_zero _ _ w.rest)))

pub returns-then-not-all_right-clause-value : goal.returns-then-not-all_right-clause-value
returns-then-not-all_right-clause-value c =
    refused _ _ _ _ _ _ _ (λ w. c.if-not-all_right.ensures (kept_right c.args.k _ _ _ c.args.refs.now _ _ (omega (arith, c.requires.le_k.0)) (long (goal.at.returns-then-not-all_right-clause-value c).Start) w))

pub returns-then-not-all_differ-clause-value : goal.returns-then-not-all_differ-clause-value
returns-then-not-all_differ-clause-value c = refused _ _ _ _ _ _ _ (λ w. c.if-not-all_differ.ensures.decides w.apart)

pub invariant_of-table : goal.invariant_of-table
invariant_of-table c = record { table = passed_table (passed (goal.at.invariant_of-table c).Else-not-all_differ) c.requires.sized.few c.requires.sized.nodes }

pub returns-then-not-rows_in_order-clause-value : goal.returns-then-not-rows_in_order-clause-value
returns-then-not-rows_in_order-clause-value c =
    refused _ _ _ _ _ _ _ (λ w. c.if-not-rows_in_order.ensures (rows_table _ _ _ (long (goal.at.returns-then-not-rows_in_order-clause-value c).Start) c.split_at.ensures.front _ _ ∙ kept_order _ _ _ _ _ _ _ w))

pub free_only-requires-clause-rows : goal.free_only-requires-clause-rows
free_only-requires-clause-rows c =
    rows_rows _ _ _ (long (goal.at.free_only-requires-clause-rows c).Start) c.split_at.ensures.front _ _ _ (passed_rows (passed (goal.at.free_only-requires-clause-rows c).Else-not-all_differ) c.requires.le_k.2)

pub returns-clause-value : goal.returns-clause-value
returns-clause-value c =
    let start = long (goal.at.returns-clause-value c).Start in
    let front = c.split_at.ensures.front in
    let order = sym (rows_table _ _ _ start front _ _) ∙ c.if-not-rows_in_order.ensures in
    verdict _ c.args.allowed.now _ _ c.args.refs.now _ c.args.nodes.now (passed (goal.at.returns-clause-value c).Else-not-all_differ) order c.free_only.result (free_rows _ _ _ start front _ _ _ _ c.free_only.result c.free_only.ensures.decides)

pub returns-clause-check_leaves : goal.returns-clause-check_leaves
returns-clause-check_leaves c =
    record {
      rest = record { eq = λ i h. c.free_only.ensures.rest.eq i (omega arith) ∙ c.all_differ.ensures.between.rest.eq i h };
      chained = λ e. chained_same (c.if-not-all_differ.ensures.chained refl) (record { eq = λ i h. c.free_only.ensures.rest.eq i (omega arith) });
    }
