-- The numbers by which the definitions know what the code shows as kinds of words. Assumes nothing.
use Rattle.std.specs.Prelude.{ℕ}
use Rattle.spelling.specs.declared.kinds.Kind.{Kind}
use Rattle.spelling.specs.declared.kinds.Kind.TheVariants.{Name, Constant, True, False, Once, Historically, Before, Not, Since, And, Or, Implies, Forall, Exists, Open, Close, Comma, Dot}
use Rattle.spelling.specs.declared.bytes.Beginning.{Beginning}
use Rattle.spelling.specs.declared.bytes.Beginning.TheVariants.{Word, Space, Foreign}

-- the number of a kind
abbrev pub kind_code : Kind → ℕ
kind_code Name = 0
kind_code Constant = 1
kind_code True = 2
kind_code False = 3
kind_code Once = 4
kind_code Historically = 5
kind_code Before = 6
kind_code Not = 7
kind_code Since = 8
kind_code And = 9
kind_code Or = 10
kind_code Implies = 11
kind_code Forall = 12
kind_code Exists = 13
kind_code Open = 14
kind_code Close = 15
kind_code Comma = 16
kind_code Dot = 17

-- the number of what a byte begins: a word's, 18 for a space, 19 for nothing
abbrev pub beginning_code : Beginning → ℕ
beginning_code (Word k) = kind_code k
beginning_code Space = 18
beginning_code Foreign = 19
