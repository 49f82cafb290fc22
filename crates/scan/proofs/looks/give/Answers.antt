-- `looks::give` meets its contract, way by way. Assumes nothing.
use native.Mathlib.Omega.{arith}
use mathlib.Core.Path.{ap}
use Rattle.spelling.specs.declared.kinds.Kind.TheVariants.{Open, Close}
use Rattle.spelling.specs.declared.modes.Mode.TheVariants.{Operand, AfterArgument, Nothing}
use Rattle.spelling.specs.Kinds.{kind_code}
use Rattle.spelling.proofs.Each.{kind_same, mode_met, mode_missed}
use Rattle.scan.proofs.GiveLaws.{halts, opened, called, finished, unopened, shuts, goes_on}
use Rattle.scan.proofs.looks.give.Goals as goal

pub returns-then-eq : goal.returns-then-eq
returns-then-eq c = halts _ _ _ _ c.next_mode-mode.ensures (mode_met c.next_mode-mode.result Nothing _ c.eq.ensures c.if-eq.true)

pub returns-then-eq-2 : goal.returns-then-eq-2
returns-then-eq-2 c = record {
  live = mode_missed c.next_mode-mode.result Nothing _ c.eq.ensures c.if-eq.false;
  near = omega arith;
  gives = opened _ _ _ _ c.next_mode-mode.ensures (ap kind_code c.in-Open.is) (mode_met c.next_mode-mode.result Operand _ c.eq-in-Open.ensures c.if-eq-2.true);
}

pub returns-else-eq-2 : goal.returns-else-eq-2
returns-else-eq-2 c = record {
  live = mode_missed c.next_mode-mode.result Nothing _ c.eq.ensures c.if-eq.false;
  near = omega arith;
  gives = called _ _ _ _ c.next_mode-mode.ensures (mode_missed c.next_mode-mode.result Nothing _ c.eq.ensures c.if-eq.false) (ap kind_code c.in-Open.is) (mode_missed c.next_mode-mode.result Operand _ c.eq-in-Open.ensures c.if-eq-2.false);
}

pub returns-then-eq-3 : goal.returns-then-eq-3
returns-then-eq-3 c = record {
  live = mode_missed c.next_mode-mode.result Nothing _ c.eq.ensures c.if-eq.false;
  near = omega arith;
  gives = finished _ _ _ _ c.next_mode-mode.ensures (mode_missed c.next_mode-mode.result Nothing _ c.eq.ensures c.if-eq.false) (ap kind_code c.in-Close.is) (mode_met c.args.shape.mode AfterArgument _ c.eq-in-Close.ensures c.if-eq-3.true);
}

pub returns-then-depth-eq0 : goal.returns-then-depth-eq0
returns-then-depth-eq0 c = unopened _ _ _ _ c.next_mode-mode.ensures (mode_missed c.next_mode-mode.result Nothing _ c.eq.ensures c.if-eq.false) (ap kind_code c.in-Close.is) (mode_missed c.args.shape.mode AfterArgument _ c.eq-in-Close.ensures c.if-eq-3.false) c.if-depth-eq0.true

pub returns-else-depth-eq0 : goal.returns-else-depth-eq0
returns-else-depth-eq0 c = record {
  live = mode_missed c.next_mode-mode.result Nothing _ c.eq.ensures c.if-eq.false;
  near = omega arith;
  gives = shuts _ _ _ _ c.next_mode-mode.ensures (mode_missed c.next_mode-mode.result Nothing _ c.eq.ensures c.if-eq.false) (ap kind_code c.in-Close.is) (mode_missed c.args.shape.mode AfterArgument _ c.eq-in-Close.ensures c.if-eq-3.false) c.if-depth-eq0.false;
}

pub returns-in_default : goal.returns-in_default
returns-in_default c = record {
  live = mode_missed c.next_mode-mode.result Nothing _ c.eq.ensures c.if-eq.false;
  near = omega arith;
  gives = goes_on _ _ _ _ c.next_mode-mode.ensures (mode_missed c.next_mode-mode.result Nothing _ c.eq.ensures c.if-eq.false) (λ e. c.in_default.not-Open (kind_same _ Open e)) (λ e. c.in_default.not-Close (kind_same _ Close e));
}
