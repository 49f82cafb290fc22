-- `scopes::enter` meets its contract, way by way. Assumes nothing.
use Prim.Native.Nat.{◌-◌}
use native.Mathlib.Omega.{arith}
use mathlib.Core.Path.{ap}
use mathlib.Core.Logic.{inl, inr}
use lib.ListN.{take, drop}
use Rattle.spelling.specs.declared.kinds.Kind.TheVariants.{Name, Open, Close}
use Rattle.spelling.specs.declared.modes.Mode.TheVariants.{Operand, Variable, Argument, AfterArgument}
use Rattle.spelling.specs.Kinds.{kind_code}
use Rattle.spelling.specs.Modes.{mode_code}
use Rattle.spelling.proofs.Each.{kind_same, mode_same}
use Rattle.census.specs.Tables.{names_at}
use Rattle.census.proofs.TableLaws.{table_length, number_listed, find_lists, find_number}
use Rattle.census.proofs.EnterLaws.{is_binding, is_use, is_name, is_opening, is_call, is_end, is_closing, is_other, enters_none, enters_open, enters_loose, enters_bound, enters_close, enters_bind, variable_slot}
use Rattle.census.proofs.scopes.enter.Goals as goal

pub unwrap-v-requires : goal.unwrap-v-requires
unwrap-v-requires c = find_lists _ _ _ c.find.ensures (omega (arith, (c.requires.listed (variable_slot (mode_code c.args.mode) (kind_code c.args.w.word) (ap kind_code c.in-Name.is) (inl (ap mode_code c.in-Variable.is)))), table_length c.args.names.text.now c.args.names.spans.now))

pub offset_bounds-since-v : goal.offset_bounds-since-v
offset_bounds-since-v c = omega (arith, find_number _ _ _ _ c.find.ensures c.unwrap-v.ensures, table_length c.args.names.text.now c.args.names.spans.now, c.requires.bounds.0)

pub bounds-since-v : goal.bounds-since-v
bounds-since-v c = omega (arith, find_number _ _ _ _ c.find.ensures c.unwrap-v.ensures, table_length c.args.names.text.now c.args.names.spans.now, c.requires.bounds.0)

pub offset_bounds-since-v-in-Variable : goal.offset_bounds-since-v-in-Variable
offset_bounds-since-v-in-Variable c = omega (arith, find_number _ _ _ _ c.find.ensures c.unwrap-v.ensures, table_length c.args.names.text.now c.args.names.spans.now, c.requires.bounds.0)

pub bounds-since-v-in-Variable : goal.bounds-since-v-in-Variable
bounds-since-v-in-Variable c = omega (arith, find_number _ _ _ _ c.find.ensures c.unwrap-v.ensures, table_length c.args.names.text.now c.args.names.spans.now, c.requires.bounds.0)

pub unwrap-v-requires-in-Argument : goal.unwrap-v-requires-in-Argument
unwrap-v-requires-in-Argument c = find_lists _ _ _ c.find-in-Argument.ensures (omega (arith, (c.requires.listed (variable_slot (mode_code c.args.mode) (kind_code c.args.w.word) (ap kind_code c.in-Name.is) (inr (ap mode_code c.in-Argument.is)))), table_length c.args.names.text.now c.args.names.spans.now))

pub offset_bounds-since-v-in-Argument : goal.offset_bounds-since-v-in-Argument
offset_bounds-since-v-in-Argument c = omega (arith, find_number _ _ _ _ c.find-in-Argument.ensures c.unwrap-v-in-Argument.ensures, table_length c.args.names.text.now c.args.names.spans.now, c.requires.bounds.0)

pub bounds-since-v-in-Argument : goal.bounds-since-v-in-Argument
bounds-since-v-in-Argument c = omega (arith, find_number _ _ _ _ c.find-in-Argument.ensures c.unwrap-v-in-Argument.ensures, table_length c.args.names.text.now c.args.names.spans.now, c.requires.bounds.0)

pub returns-in-Variable : goal.returns-in-Variable
returns-in-Variable c = enters_bind (names_at c.args.names.text.now c.args.names.spans.now) _ _ _ (take (c.args.w.past - c.args.w.from) (drop c.args.w.from c.args.names.text.now)) _ _ (is_binding (mode_code c.args.mode) (kind_code c.args.w.word) (take (c.args.w.past - c.args.w.from) (drop c.args.w.from c.args.names.text.now)) (ap kind_code c.in-Name.is) (ap mode_code c.in-Variable.is)) (find_number _ _ _ _ c.find.ensures c.unwrap-v.ensures).0 (find_number _ _ _ _ c.find.ensures c.unwrap-v.ensures).1 (omega (arith, c.requires.bounds.0, table_length c.args.names.text.now c.args.names.spans.now)) (number_listed (names_at c.args.names.text.now c.args.names.spans.now) (take (c.args.w.past - c.args.w.from) (drop c.args.w.from c.args.names.text.now)) (omega (arith, (c.requires.listed (variable_slot (mode_code c.args.mode) (kind_code c.args.w.word) (ap kind_code c.in-Name.is) (inl (ap mode_code c.in-Variable.is)))), table_length c.args.names.text.now c.args.names.spans.now))) c.bind.ensures

pub returns-then-since-v-eq0 : goal.returns-then-since-v-eq0
returns-then-since-v-eq0 c = enters_loose (names_at c.args.names.text.now c.args.names.spans.now) _ _ _ (take (c.args.w.past - c.args.w.from) (drop c.args.w.from c.args.names.text.now)) _ (is_use (mode_code c.args.mode) (kind_code c.args.w.word) (take (c.args.w.past - c.args.w.from) (drop c.args.w.from c.args.names.text.now)) (ap kind_code c.in-Name.is) (ap mode_code c.in-Argument.is)) (find_number _ _ _ _ c.find-in-Argument.ensures c.unwrap-v-in-Argument.ensures).0 (find_number _ _ _ _ c.find-in-Argument.ensures c.unwrap-v-in-Argument.ensures).1 (number_listed (names_at c.args.names.text.now c.args.names.spans.now) (take (c.args.w.past - c.args.w.from) (drop c.args.w.from c.args.names.text.now)) (omega (arith, (c.requires.listed (variable_slot (mode_code c.args.mode) (kind_code c.args.w.word) (ap kind_code c.in-Name.is) (inr (ap mode_code c.in-Argument.is)))), table_length c.args.names.text.now c.args.names.spans.now))) c.if-since-v-eq0.true

pub returns-else-since-v-eq0 : goal.returns-else-since-v-eq0
returns-else-since-v-eq0 c = enters_bound (names_at c.args.names.text.now c.args.names.spans.now) _ _ _ (take (c.args.w.past - c.args.w.from) (drop c.args.w.from c.args.names.text.now)) _ (is_use (mode_code c.args.mode) (kind_code c.args.w.word) (take (c.args.w.past - c.args.w.from) (drop c.args.w.from c.args.names.text.now)) (ap kind_code c.in-Name.is) (ap mode_code c.in-Argument.is)) (find_number _ _ _ _ c.find-in-Argument.ensures c.unwrap-v-in-Argument.ensures).0 (find_number _ _ _ _ c.find-in-Argument.ensures c.unwrap-v-in-Argument.ensures).1 (number_listed (names_at c.args.names.text.now c.args.names.spans.now) (take (c.args.w.past - c.args.w.from) (drop c.args.w.from c.args.names.text.now)) (omega (arith, (c.requires.listed (variable_slot (mode_code c.args.mode) (kind_code c.args.w.word) (ap kind_code c.in-Name.is) (inr (ap mode_code c.in-Argument.is)))), table_length c.args.names.text.now c.args.names.spans.now))) c.if-since-v-eq0.false

pub returns-in_default-mode : goal.returns-in_default-mode
returns-in_default-mode c = enters_none (names_at c.args.names.text.now c.args.names.spans.now) _ _ _ (is_name (mode_code c.args.mode) (kind_code c.args.w.word) (take (c.args.w.past - c.args.w.from) (drop c.args.w.from c.args.names.text.now)) (ap kind_code c.in-Name.is) (λ e. c.in_default-mode.not-Variable (mode_same _ Variable e)) (λ e. c.in_default-mode.not-Argument (mode_same _ Argument e)))

pub returns-in-Operand : goal.returns-in-Operand
returns-in-Operand c = enters_open (names_at c.args.names.text.now c.args.names.spans.now) _ _ _ (is_opening (mode_code c.args.mode) (kind_code c.args.w.word) (take (c.args.w.past - c.args.w.from) (drop c.args.w.from c.args.names.text.now)) (ap kind_code c.in-Open.is) (ap mode_code c.in-Operand.is))

pub returns-in_default-mode-2 : goal.returns-in_default-mode-2
returns-in_default-mode-2 c = enters_none (names_at c.args.names.text.now c.args.names.spans.now) _ _ _ (is_call (mode_code c.args.mode) (kind_code c.args.w.word) (take (c.args.w.past - c.args.w.from) (drop c.args.w.from c.args.names.text.now)) (ap kind_code c.in-Open.is) (λ e. c.in_default-mode-2.not-Operand (mode_same _ Operand e)))

pub returns-in-AfterArgument : goal.returns-in-AfterArgument
returns-in-AfterArgument c = enters_none (names_at c.args.names.text.now c.args.names.spans.now) _ _ _ (is_end (mode_code c.args.mode) (kind_code c.args.w.word) (take (c.args.w.past - c.args.w.from) (drop c.args.w.from c.args.names.text.now)) (ap kind_code c.in-Close.is) (ap mode_code c.in-AfterArgument.is))

pub returns-in_default-mode-3 : goal.returns-in_default-mode-3
returns-in_default-mode-3 c = enters_close (names_at c.args.names.text.now c.args.names.spans.now) _ _ _ _ _ (is_closing (mode_code c.args.mode) (kind_code c.args.w.word) (take (c.args.w.past - c.args.w.from) (drop c.args.w.from c.args.names.text.now)) (ap kind_code c.in-Close.is) (λ e. c.in_default-mode-3.not-AfterArgument (mode_same _ AfterArgument e))) (omega (arith, c.saturating_sub-outer.ensures)) (omega (arith, c.requires.bounds.0, table_length c.args.names.text.now c.args.names.spans.now)) c.close.ensures

pub returns-in_default : goal.returns-in_default
returns-in_default c = enters_none (names_at c.args.names.text.now c.args.names.spans.now) _ _ _ (is_other (mode_code c.args.mode) (kind_code c.args.w.word) (take (c.args.w.past - c.args.w.from) (drop c.args.w.from c.args.names.text.now)) (λ e. c.in_default.not-Name (kind_same _ Name e)) (λ e. c.in_default.not-Open (kind_same _ Open e)) (λ e. c.in_default.not-Close (kind_same _ Close e)))
