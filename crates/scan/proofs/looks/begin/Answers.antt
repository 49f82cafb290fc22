-- `looks::begin` meets its contract, by the class of the byte. Assumes nothing.
use mathlib.Core.Path.{refl, ap}
use native.Mathlib.Omega.{arith}
use Rattle.spelling.specs.declared.kinds.Kind.TheVariants.{Name, Constant, Implies}
use Rattle.spelling.specs.declared.modes.Mode.TheVariants.{Argument}
use Rattle.spelling.specs.Kinds.{kind_code}
use Rattle.spelling.proofs.Each.{kind_same, kind_lt, mode_met, mode_missed}
use Rattle.scan.proofs.BeginLaws.{letter_begins, letter_stops, digit_begins, digit_stops, dash_begins, dash_stops, blank_begins, foreign_stops, sign_begins, sign_stops}
use Rattle.scan.proofs.looks.begin.Goals as goal

pub returns-in-Space : goal.returns-in-Space
returns-in-Space c = blank_begins _ _ _ _ _ c.requires.0 c.requires.1 c.requires.2 c.in-Space.ensures refl

pub returns-in-Foreign : goal.returns-in-Foreign
returns-in-Foreign c = foreign_stops _ _ _ _ _ c.requires.0 c.requires.1 c.requires.2 c.in-Foreign.ensures refl

pub returns-then-leads : goal.returns-then-leads
returns-then-leads c = letter_begins _ _ _ _ _ c.requires.0 c.requires.1 c.requires.2 c.in-Word.ensures _ c.leads.ensures (ap kind_code c.in-Name.is) c.if-leads.true

pub returns-else-leads : goal.returns-else-leads
returns-else-leads c = letter_stops _ _ _ _ _ c.requires.0 c.requires.1 c.requires.2 c.in-Word.ensures _ c.leads.ensures (ap kind_code c.in-Name.is) c.if-leads.false

pub returns-then-eq : goal.returns-then-eq
returns-then-eq c = digit_begins _ _ _ _ _ c.requires.0 c.requires.1 c.requires.2 c.in-Word.ensures (ap kind_code c.in-Constant.is) (mode_met c.args.shape.mode Argument _ c.eq.ensures c.if-eq.true)

pub returns-else-eq : goal.returns-else-eq
returns-else-eq c = digit_stops _ _ _ _ _ c.requires.0 c.requires.1 c.requires.2 c.in-Word.ensures (ap kind_code c.in-Constant.is) (mode_missed c.args.shape.mode Argument _ c.eq.ensures c.if-eq.false)

pub returns-then-joins : goal.returns-then-joins
returns-then-joins c = dash_begins _ _ _ _ _ c.requires.0 c.requires.1 c.requires.2 c.in-Word.ensures _ c.joins.ensures (ap kind_code c.in-Implies.is) c.if-joins.true

pub returns-else-joins : goal.returns-else-joins
returns-else-joins c = dash_stops _ _ _ _ _ c.requires.0 c.requires.1 c.requires.2 c.in-Word.ensures _ c.joins.ensures (ap kind_code c.in-Implies.is) c.if-joins.false

pub returns-in_err-after-in_default : goal.returns-in_err-after-in_default
returns-in_err-after-in_default c =
    rw c.from_residual.ensures
    (sign_stops _ _ _ _ _ c.requires.0 c.requires.1 c.requires.2 c.in-Word.ensures (λ e. c.in_default.not-Name (kind_same _ Name e)) (λ e. c.in_default.not-Constant (kind_same _ Constant e))
    (λ e. c.in_default.not-Implies (kind_same _ Implies e)) (λ e. omega (arith, kind_lt c.in-Word.word)) (λ e. omega (arith, kind_lt c.in-Word.word)) c.in_err-after-in_default.ensures)

pub returns-in_ok-after-in_default : goal.returns-in_ok-after-in_default
returns-in_ok-after-in_default c =
    sign_begins _ _ _ _ _ c.requires.0 c.requires.1 c.requires.2 c.in-Word.ensures _ _ (λ e. c.in_default.not-Name (kind_same _ Name e)) (λ e. c.in_default.not-Constant (kind_same _ Constant e))
    (λ e. c.in_default.not-Implies (kind_same _ Implies e)) (λ e. omega (arith, kind_lt c.in-Word.word)) (λ e. omega (arith, kind_lt c.in-Word.word)) c.in_ok-after-in_default.ensures
