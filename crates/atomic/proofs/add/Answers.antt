-- `add` meets its contract. Assumes nothing.
use native.Mathlib.Omega.{arith}
use mathlib.Core.Path.{ap}
use Rattle.spelling.specs.declared.kinds.Kind.TheVariants.{Name, Constant}
use Rattle.spelling.specs.Kinds.{kind_code}
use Rattle.spelling.proofs.Each.{kind_same}
use Rattle.atomic.proofs.AddLaws.{add_name, add_number, add_none}
use Rattle.atomic.proofs.add.Goals as goal

pub overflow_cast-number : goal.overflow_cast-number
overflow_cast-number c = omega (arith, c.number.ensures.few, c.requires.few)

pub returns-in-Name : goal.returns-in-Name
returns-in-Name c = add_name _ _ _ _ _ _ (ap kind_code c.in-Name.is) c.number.ensures.number c.put.ensures

pub returns-in-Constant : goal.returns-in-Constant
returns-in-Constant c = add_number _ _ _ _ _ _ _ (ap kind_code c.in-Constant.is) c.value_of.ensures c.unwrap_or.ensures c.put-in-Constant.ensures

pub returns-in_default : goal.returns-in_default
returns-in_default c = add_none _ _ _ _ (λ e. c.in_default.not-Name (kind_same _ Name e)) (λ e. c.in_default.not-Constant (kind_same _ Constant e))
