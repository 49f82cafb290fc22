use Rattle.census.specs.Tables.{names_at}
use Rattle.drive.proofs.PassSteps.{drive_begins, drive_ends, drive_ends_over, drive_full, drive_more}
use Rattle.drive.proofs.pass.rows_of.Goals as goal

pub loop-t-init : goal.loop-t-init
loop-t-init c = drive_begins (names_at c.args.known.text.now c.args.known.predicates.now) (names_at c.args.known.text.now c.args.known.variables.now) _ _ _ c.clear.ensures c.new-stack.ensures c.requires.has_reading.0 c.requires.has_reading.2

pub returns-in_err-row : goal.returns-in_err-row
returns-in_err-row c = rw c.from_residual.ensures (drive_full (names_at c.args.known.text.now c.args.known.predicates.now) (names_at c.args.known.text.now c.args.known.variables.now) _ c.requires.has_reading.2 c.requires.names.0.names c.requires.names.1.names _ _ _ _ _ c.loop-t.invariant _ c.in-Some.ensures (Unit {0}) c.one.new.table c.one.new.stack c.in_err-row.ensures.moves)

pub loop-t-preserved : goal.loop-t-preserved
loop-t-preserved c = drive_more (names_at c.args.known.text.now c.args.known.predicates.now) (names_at c.args.known.text.now c.args.known.variables.now) _ c.requires.has_reading.2 c.requires.names.0.names c.requires.names.1.names _ _ _ _ _ c.loop-t.invariant _ c.in-Some.ensures _ _ _ _ c.in_ok-row.ensures.moves c.in_ok-row.ensures.near c.next_mode-mode.ensures

pub returns-in_err-finish : goal.returns-in_err-finish
returns-in_err-finish c = rw c.from_residual-in_err-finish.ensures (drive_ends_over (names_at c.args.known.text.now c.args.known.predicates.now) (names_at c.args.known.text.now c.args.known.variables.now) _ c.requires.has_reading.2 c.requires.names.0.names c.requires.names.1.names _ _ _ _ _ c.loop-t.invariant c.in_default.ensures (Unit {0}) c.finish.new.table c.in_err-finish.ensures)

pub returns : goal.returns
returns c = drive_ends (names_at c.args.known.text.now c.args.known.predicates.now) (names_at c.args.known.text.now c.args.known.variables.now) _ c.requires.has_reading.2 c.requires.names.0.names c.requires.names.1.names _ _ _ _ _ c.loop-t.invariant c.in_default.ensures {A = Unit {0}} _ _ tt c.in_ok-finish.ensures
