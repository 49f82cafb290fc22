use mathlib.Core.Path.{refl}
use Rattle.census.proofs.FreePass.{scope_begins, scope_ends, scope_number, scope_loose, scope_more}
use Rattle.census.proofs.scopes.has_free.Goals as goal

pub loop-w-init : goal.loop-w-init
loop-w-init c = scope_begins _ _ c.requires.0 c.requires.1

pub enter-requires-clause-listed : goal.enter-requires-clause-listed
enter-requires-clause-listed c = scope_number _ _ _ _ _ _ c.requires.1 c.loop-w.invariant _ c.in-Some.ensures

pub returns-in_default-enter : goal.returns-in_default-enter
returns-in_default-enter c = scope_loose _ _ _ _ _ _ c.requires.1 c.loop-w.invariant _ c.in-Some.ensures _ _ _ c.in_default-enter.ensures refl

pub loop-w-preserved : goal.loop-w-preserved
loop-w-preserved c = scope_more _ _ _ _ _ _ c.requires.1 c.loop-w.invariant _ c.in-Some.ensures _ _ _ c.in-Some-enter.ensures _ refl c.next_mode-mode.ensures

pub returns : goal.returns
returns c = scope_ends _ _ _ _ _ _ c.requires.1 c.loop-w.invariant c.in_default.ensures
