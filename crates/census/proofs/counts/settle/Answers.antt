-- `counts::settle` meets its contract. Assumes nothing.
use native.Mathlib.Omega.{arith}
use mathlib.Core.Path.{sym, ◌∙◌}
use Rattle.census.proofs.TableLaws.{table_length, find_lists, find_number}
use Rattle.census.proofs.SettleLaws.{settled_no, settled_new, settled_old}
use Rattle.std.specs.Prelude.{None}
use Rattle.std.proofs.lemmas.List.{get_or_default}
use Rattle.census.proofs.counts.settle.Goals as goal

pub returns-then-not-is_name : goal.returns-then-not-is_name
returns-then-not-is_name c = settled_no _ _ _ _ _ _ (sym c.is_name.ensures ∙ c.if-not-is_name.true)

pub unwrap-i-requires : goal.unwrap-i-requires
unwrap-i-requires c = find_lists _ _ _ c.find.ensures (omega (arith, c.requires.listed (sym c.is_name.ensures ∙ c.if-not-is_name.false), table_length c.args.names.text.now c.args.names.spans.now))

pub overflow_cast-count : goal.overflow_cast-count
overflow_cast-count c = omega (arith, c.count_arguments-count.ensures.few, c.requires.bounds.0)

pub offset_bounds-counts-i : goal.offset_bounds-counts-i
offset_bounds-counts-i c = omega (arith, find_number _ _ _ _ c.find.ensures c.unwrap-i.ensures, table_length c.args.names.text.now c.args.names.spans.now, c.requires.bounds.1)

pub bounds-counts-i : goal.bounds-counts-i
bounds-counts-i c = omega (arith, find_number _ _ _ _ c.find.ensures c.unwrap-i.ensures, table_length c.args.names.text.now c.args.names.spans.now, c.requires.bounds.1)

pub offset_bounds-counts-i-in-None : goal.offset_bounds-counts-i-in-None
offset_bounds-counts-i-in-None c = omega (arith, find_number _ _ _ _ c.find.ensures c.unwrap-i.ensures, table_length c.args.names.text.now c.args.names.spans.now, c.requires.bounds.1)

pub bounds-counts-i-in-None : goal.bounds-counts-i-in-None
bounds-counts-i-in-None c = omega (arith, find_number _ _ _ _ c.find.ensures c.unwrap-i.ensures, table_length c.args.names.text.now c.args.names.spans.now, c.requires.bounds.1)

pub returns-in-Some : goal.returns-in-Some
returns-in-Some c = settled_old _ _ _ _ _ _ (sym c.is_name.ensures ∙ c.if-not-is_name.false) _ _ c.requires.bounds.0 c.count_arguments-count.ensures (find_number _ _ _ _ c.find.ensures c.unwrap-i.ensures).0 _ (get_or_default c.args.counts.now c.unwrap-i.result None c.index-counts-i.result (omega (arith, find_number _ _ _ _ c.find.ensures c.unwrap-i.ensures, table_length c.args.names.text.now c.args.names.spans.now, c.requires.bounds.1, c.told-counts)) ∙ sym c.get.ensures ∙ c.in-Some.is)

pub returns-in-None : goal.returns-in-None
returns-in-None c = rw c.count.ensures (settled_new _ _ _ _ _ _ (sym c.is_name.ensures ∙ c.if-not-is_name.false) _ _ c.requires.bounds.0 c.count_arguments-count.ensures (find_number _ _ _ _ c.find.ensures c.unwrap-i.ensures).0 (get_or_default c.args.counts.now c.unwrap-i.result None c.index-counts-i.result (omega (arith, find_number _ _ _ _ c.find.ensures c.unwrap-i.ensures, table_length c.args.names.text.now c.args.names.spans.now, c.requires.bounds.1, c.told-counts)) ∙ sym c.get.ensures ∙ c.in-None.is))
