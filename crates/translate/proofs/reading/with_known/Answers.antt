-- `reading::with_known` meets its contract. Assumes nothing.
use native.Mathlib.Omega.{arith}
use mathlib.Core.Path.{refl, ap}
use lib.ListN.{length}
use Rattle.std.proofs.lemmas.Result.{err_from_is_err_and}
use Rattle.translate.proofs.TranslatedLaws.{says_7, says_8, says_9, few_names, rows_written}
use Rattle.translate.proofs.reading.with_known.Goals as goal

pub returns-then-clashes : goal.returns-then-clashes
returns-then-clashes c = (says_7 c.args.known.text.now c.args.rows.now c.requires.has_reading.0 c.requires.has_reading.1 c.requires.rows_len c.requires.has_reading.2 _ c.requires.names.1 _ (rw c.predicate_names.ensures.0 at c.clashes.ensures) c.if-clashes.true, refl)

pub returns-then-has_free : goal.returns-then-has_free
returns-then-has_free c = (says_8 c.args.known.text.now c.args.rows.now c.requires.has_reading.0 c.requires.has_reading.1 c.requires.rows_len c.requires.has_reading.2 _ c.requires.names.1 _ (rw c.predicate_names.ensures.0 at c.clashes.ensures) c.if-clashes.false _ (rw c.variable_names.ensures.0 at c.has_free.ensures) c.if-has_free.true, refl)

pub returns-in_err-ok_or : goal.returns-in_err-ok_or
returns-in_err-ok_or c =
    let p = err_from_is_err_and c.from_residual.result c.from_residual.ensures.1 in
    rw (p.1, p.2) (says_9 c.args.known.text.now c.args.rows.now c.requires.has_reading.0 c.requires.has_reading.1 c.requires.rows_len c.requires.has_reading.2 _ c.requires.names.1 _ (rw c.predicate_names.ensures.0 at c.clashes.ensures) c.if-clashes.false _ (rw c.variable_names.ensures.0 at c.has_free.ensures) c.if-has_free.false _ _ _ c.rows_of.ensures c.in_err-ok_or.ensures.value, refl)

pub lay-requires : goal.lay-requires
lay-requires c = omega (arith, c.as_flattened-numbers.ensures.len, c.rows-made.ensures.few, ap length c.rows-made.ensures.rows, c.requires.rows_len)

pub placed-requires : goal.placed-requires
placed-requires c = (omega arith, few_names c.args.known.text.now c.args.rows.now c.requires.has_reading.0 c.requires.has_reading.1 c.requires.rows_len c.requires.has_reading.2 _ c.requires.names.1 _ (rw c.predicate_names.ensures.0 at c.clashes.ensures) c.if-clashes.false _ (rw c.variable_names.ensures.0 at c.has_free.ensures) c.if-has_free.false _ _ (rw c.in_ok-ok_or.ensures.ok_part at c.rows_of.ensures) c.rows-made.ensures.few _ c.requires.names.0)

pub returns : goal.returns
returns c = rows_written c.args.known.text.now c.args.rows.now c.requires.has_reading.0 c.requires.has_reading.1 c.requires.rows_len c.requires.has_reading.2 _ c.requires.names.1 _ (rw c.predicate_names.ensures.0 at c.clashes.ensures) c.if-clashes.false _ (rw c.variable_names.ensures.0 at c.has_free.ensures) c.if-has_free.false _ _ (rw c.in_ok-ok_or.ensures.ok_part at c.rows_of.ensures) c.rows-made.ensures.few _ c.requires.names.0 _ _ _ _ _ c.rows-made.ensures.rows c.as_flattened-numbers.ensures.value c.lay.ensures c.args.known.called c.args.known.bound c.placed.ensures c.placed-2.ensures
