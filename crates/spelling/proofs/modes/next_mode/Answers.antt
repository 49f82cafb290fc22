-- `modes::next_mode` meets its contract: its table holds where each word leads from each mode. Assumes nothing.
use mathlib.Core.Path.{◌≡◌, refl}
use mathlib.Core.List.{List, [], ◌∷◌}
use lib.ListN.{get_or}
use denote.Enum.Declared.{tag_of}
use Rattle.spelling.specs.Codes.{next_mode, nexts, kinds}
use Rattle.spelling.specs.Kinds.{kind_code}
use Rattle.spelling.specs.Modes.{mode_code}
use Rattle.spelling.specs.contracts.kinds.Kind
use Rattle.spelling.specs.contracts.modes.Mode
use Rattle.spelling.specs.declared.kinds.Kind.{Kind}
use Rattle.spelling.specs.declared.modes.Mode.{Mode}
use Rattle.spelling.specs.declared.modes.Mode.TheVariants.{Operand, Operator, AfterName, Variable, AfterVariable, Argument, AfterArgument, Nothing}
use Rattle.spelling.proofs.Each.{each}
use Rattle.spelling.proofs.modes.next_mode.Goals as goal

-- the static `NEXT`
unfoldable table : List (List Mode)
table =
    (AfterName ∷ Nothing ∷ Operator ∷ Operator ∷ Operand ∷ Operand ∷ Operand ∷ Operand ∷ Nothing ∷ Nothing ∷ Nothing ∷ Nothing ∷ Variable ∷ Variable ∷ Operand ∷ Nothing ∷ Nothing ∷ Nothing ∷ [])
    ∷ (Nothing ∷ Nothing ∷ Nothing ∷ Nothing ∷ Nothing ∷ Nothing ∷ Nothing ∷ Nothing ∷ Operand ∷ Operand ∷ Operand ∷ Operand ∷ Nothing ∷ Nothing ∷ Nothing ∷ Operator ∷ Nothing ∷ Nothing ∷ [])
    ∷ (Nothing ∷ Nothing ∷ Nothing ∷ Nothing ∷ Nothing ∷ Nothing ∷ Nothing ∷ Nothing ∷ Operand ∷ Operand ∷ Operand ∷ Operand ∷ Nothing ∷ Nothing ∷ Argument ∷ Operator ∷ Nothing ∷ Nothing ∷ [])
    ∷ (AfterVariable ∷ Nothing ∷ Nothing ∷ Nothing ∷ Nothing ∷ Nothing ∷ Nothing ∷ Nothing ∷ Nothing ∷ Nothing ∷ Nothing ∷ Nothing ∷ Nothing ∷ Nothing ∷ Nothing ∷ Nothing ∷ Nothing ∷ Nothing ∷ [])
    ∷ (Nothing ∷ Nothing ∷ Nothing ∷ Nothing ∷ Nothing ∷ Nothing ∷ Nothing ∷ Nothing ∷ Nothing ∷ Nothing ∷ Nothing ∷ Nothing ∷ Nothing ∷ Nothing ∷ Nothing ∷ Nothing ∷ Nothing ∷ Operand ∷ [])
    ∷ (AfterArgument ∷ AfterArgument ∷ Nothing ∷ Nothing ∷ Nothing ∷ Nothing ∷ Nothing ∷ Nothing ∷ Nothing ∷ Nothing ∷ Nothing ∷ Nothing ∷ Nothing ∷ Nothing ∷ Nothing ∷ Nothing ∷ Nothing ∷ Nothing ∷ [])
    ∷ (Nothing ∷ Nothing ∷ Nothing ∷ Nothing ∷ Nothing ∷ Nothing ∷ Nothing ∷ Nothing ∷ Nothing ∷ Nothing ∷ Nothing ∷ Nothing ∷ Nothing ∷ Nothing ∷ Nothing ∷ Operator ∷ Argument ∷ Nothing ∷ [])
    ∷ (Nothing ∷ Nothing ∷ Nothing ∷ Nothing ∷ Nothing ∷ Nothing ∷ Nothing ∷ Nothing ∷ Nothing ∷ Nothing ∷ Nothing ∷ Nothing ∷ Nothing ∷ Nothing ∷ Nothing ∷ Nothing ∷ Nothing ∷ Nothing ∷ [])
    ∷ []

abbrev Leads : Mode → Kind → Type 0
Leads m k = mode_code (get_or (get_or table (tag_of Mode.the_type m) []) (tag_of Kind.the_type k) Operand) ≡ next_mode (mode_code m) (kind_code k)

led : (m : Mode) (k : Kind) → Leads m k
unfolding table next_mode nexts kinds
led Operand = each (λ k. Leads Operand k) refl refl refl refl refl refl refl refl refl refl refl refl refl refl refl refl refl refl
led Operator = each (λ k. Leads Operator k) refl refl refl refl refl refl refl refl refl refl refl refl refl refl refl refl refl refl
led AfterName = each (λ k. Leads AfterName k) refl refl refl refl refl refl refl refl refl refl refl refl refl refl refl refl refl refl
led Variable = each (λ k. Leads Variable k) refl refl refl refl refl refl refl refl refl refl refl refl refl refl refl refl refl refl
led AfterVariable = each (λ k. Leads AfterVariable k) refl refl refl refl refl refl refl refl refl refl refl refl refl refl refl refl refl refl
led Argument = each (λ k. Leads Argument k) refl refl refl refl refl refl refl refl refl refl refl refl refl refl refl refl refl refl
led AfterArgument = each (λ k. Leads AfterArgument k) refl refl refl refl refl refl refl refl refl refl refl refl refl refl refl refl refl refl
led Nothing = each (λ k. Leads Nothing k) refl refl refl refl refl refl refl refl refl refl refl refl refl refl refl refl refl refl

pub returns : goal.returns
unfolding table
returns c = led c.args.mode c.args.word
